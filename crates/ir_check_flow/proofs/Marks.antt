-- Which questions a block is marked with.
use Rattle.std.proofs.Common.{◌≡◌, ◌≢◌, ℕ, zero, suc, ◌+◌, ◌^◌, ◌<◌, ◌⊎◌, inl, inr, List, [], ◌∷◌, length, get_or, slice_get, Some, refl, sym, subst, ap, ◌∙◌, arith}
use Rattle.std.proofs.Math.ListN.{length-set}
use Rattle.std.proofs.lemmas.List.{get_or-set_same, get_or-set_other, length-replicate}
use Rattle.std.proofs.lemmas.Nat.Bits.{bit_at-pow_same, bit_at-pow_other, bit_at-zero, bit_at-lt}
use Rattle.std.proofs.lemmas.Bool.{cases_eq}
use Rattle.std.specs.Int.{bit_at}
use Rattle.std.specs.Int.RustNames.{bit_or}
use Rattle.ir_check_flow.specs.declared.question.Question.{Question}
use Rattle.ir_check_flow.specs.Ways.{IsPath, entry, onward, Leads}
use Rattle.ir_check_flow.specs.Spreading.{HasBit, IsOpen, NoneAnswers}
use Rattle.ir_check_flow.specs.Answering.{marked, all_marked, NoneIs, IsOpenQuestion}
use Rattle.ir_check_flow.proofs.QuestionBits.{joined_left, joined_right, of_joined}
use Rattle.ir_check_flow.proofs.Spread.{zeros}

-- a block of a list is marked, and no other one
mark_there : (answered : List ℕ) (k home block j : ℕ) → block < length answered → (block ≡ home) ⊎ (block ≢ home)
    → HasBit (get_or answered block 0) j ⊎ ((home ≡ block) × (j ≡ k)) → HasBit (get_or (marked answered k home) block 0) j
mark_there answered k home block j within (inl same) h =
    let at : get_or (marked answered k home) home 0 ≡ bit_or (get_or answered home 0) (2 ^ k) =
    get_or-set_same answered home (bit_or (get_or answered home 0) (2 ^ k)) 0 (subst (λ (b : ℕ). b < length answered) same within) in
    subst (λ (b : ℕ). HasBit (get_or (marked answered k home) b 0) j) (sym same)
    (subst (λ (n : ℕ). HasBit n j) (sym at)
    (elim h [
      | inl old ↦ joined_left (get_or answered home 0) (2 ^ k) j (subst (λ (b : ℕ). HasBit (get_or answered b 0) j) same old)
      | inr new ↦ joined_right (get_or answered home 0) (2 ^ k) j (subst (λ (n : ℕ). HasBit (2 ^ k) n) (sym new.1) (bit_at-pow_same k))
    ]))
mark_there answered k home block j within (inr other) h =
    subst (λ (n : ℕ). HasBit n j) (sym (get_or-set_other answered home block (bit_or (get_or answered home 0) (2 ^ k)) 0 other))
    (elim h [ inl old ↦ old | inr new ↦ absurd (other (sym new.0)) ])

only_power : (k j : ℕ) → (j ≡ k) ⊎ (j ≢ k) → HasBit (2 ^ k) j → j ≡ k
only_power k j (inl e) h = e
only_power k j (inr n) h = let none = bit_at-pow_other k j n in absurd (omega (arith, none, h))

mark_only : (answered : List ℕ) (k home block j : ℕ) → block < length answered → (block ≡ home) ⊎ (block ≢ home)
    → HasBit (get_or (marked answered k home) block 0) j → HasBit (get_or answered block 0) j ⊎ ((home ≡ block) × (j ≡ k))
mark_only answered k home block j within (inl same) h =
    let at : get_or (marked answered k home) home 0 ≡ bit_or (get_or answered home 0) (2 ^ k) =
    get_or-set_same answered home (bit_or (get_or answered home 0) (2 ^ k)) 0 (subst (λ (b : ℕ). b < length answered) same within) in
    let bit : HasBit (bit_or (get_or answered home 0) (2 ^ k)) j = subst (λ (n : ℕ). HasBit n j) at (subst (λ (b : ℕ). HasBit (get_or (marked answered k home) b 0) j) same h) in
    elim (of_joined (get_or answered home 0) (2 ^ k) j bit) [
      | inl old ↦ inl (subst (λ (b : ℕ). HasBit (get_or answered b 0) j) (sym same) old)
      | inr new ↦ inr (sym same, only_power k j (cases_eq j k) new)
    ]
mark_only answered k home block j within (inr other) h =
    inl (subst (λ (n : ℕ). HasBit n j) (get_or-set_other answered home block (bit_or (get_or answered home 0) (2 ^ k)) 0 other) h)

-- question number i from k on is defined in the block
pub record IsHomeOf (block j k : ℕ) (questions : List Question) : Type 0 where
  pub number : ℕ
  pub question : Question
  pub there : slice_get questions number ≡ Some question
  pub home : question.home ≡ block
  pub bit : j ≡ k + number

later : (block j k : ℕ) (q : Question) (questions : List Question) → IsHomeOf block j (k + 1) questions → IsHomeOf block j k (q ∷ questions)
later block j k q questions h = record { number = suc h.number; question = h.question; there = h.there; home = h.home; bit = let e = h.bit in omega arith }

here_or_later : (block j k : ℕ) (q : Question) (questions : List Question) (number : ℕ) (question : Question) → slice_get (q ∷ questions) number ≡ Some question
    → question.home ≡ block → j ≡ k + number → ((q.home ≡ block) × (j ≡ k)) ⊎ IsHomeOf block j (k + 1) questions
here_or_later block j k q questions zero question there home bit =
    let same : q ≡ question = cc in inl (subst (λ (x : Question). x.home ≡ block) (sym same) home, omega arith)
here_or_later block j k q questions (suc number) question there home bit =
    inr (record { number = number; question = question; there = there; home = home; bit = omega arith })

pub same_length : (answered : List ℕ) (k : ℕ) (questions : List Question) → length (all_marked answered k questions) ≡ length answered
same_length answered k [] = refl
same_length answered k (q ∷ questions) =
    same_length (marked answered k q.home) (k + 1) questions ∙ length-set answered q.home (bit_or (get_or answered q.home 0) (2 ^ k))

still_within : (answered : List ℕ) (k home block : ℕ) → block < length answered → block < length (marked answered k home)
still_within answered k home block h = subst (λ (n : ℕ). block < n) (sym (length-set answered home (bit_or (get_or answered home 0) (2 ^ k)))) h

all_there : (answered : List ℕ) (k : ℕ) (questions : List Question) (block j : ℕ) → block < length answered
    → HasBit (get_or answered block 0) j ⊎ IsHomeOf block j k questions → HasBit (get_or (all_marked answered k questions) block 0) j
all_there answered k [] block j within (inl h) = h
all_there answered k [] block j within (inr h) = cc (h.there)
all_there answered k (q ∷ questions) block j within (inl h) =
    all_there (marked answered k q.home) (k + 1) questions block j (still_within answered k q.home block within)
    (inl (mark_there answered k q.home block j within (cases_eq block q.home) (inl h)))
all_there answered k (q ∷ questions) block j within (inr h) =
    elim (here_or_later block j k q questions h.number h.question h.there h.home h.bit) [
      | inl here ↦ all_there (marked answered k q.home) (k + 1) questions block j (still_within answered k q.home block within)
          (inl (mark_there answered k q.home block j within (cases_eq block q.home) (inr here)))
      | inr more ↦ all_there (marked answered k q.home) (k + 1) questions block j (still_within answered k q.home block within) (inr more)
    ]

all_only : (answered : List ℕ) (k : ℕ) (questions : List Question) (block j : ℕ) → block < length answered
    → HasBit (get_or (all_marked answered k questions) block 0) j → HasBit (get_or answered block 0) j ⊎ IsHomeOf block j k questions
all_only answered k [] block j within h = inl h
all_only answered k (q ∷ questions) block j within h =
    elim (all_only (marked answered k q.home) (k + 1) questions block j (still_within answered k q.home block within) h) [
      | inl before ↦ elim (mark_only answered k q.home block j within (cases_eq block q.home) before) [
        | inl old ↦ inl old
        | inr new ↦ inr (record { number = 0; question = q; there = refl; home = new.0; bit = let e = new.1 in omega arith })
      ]
      | inr more ↦ inr (later block j k q questions more)
    ]

-- ---- marks of all questions in blocks without any

none_marked : (n block j : ℕ) → HasBit (get_or (zeros n) block 0) j → ⊥
none_marked zero block j h = let e = bit_at-zero j in omega (arith, e, h)
none_marked (suc n) zero j h = let e = bit_at-zero j in omega (arith, e, h)
none_marked (suc n) (suc block) j h = none_marked n block j h

abbrev pub marks_of : ℕ → List Question → List ℕ
marks_of n questions = all_marked (zeros n) 0 questions

within_zeros : (n block : ℕ) → block < n → block < length (zeros n)
within_zeros n block h = subst (λ (k : ℕ). block < k) (sym (length-replicate n 0)) h

pub is_marked : (n : ℕ) (questions : List Question) (block k : ℕ) (q : Question) → block < n → slice_get questions k ≡ Some q → q.home ≡ block
    → HasBit (get_or (marks_of n questions) block 0) k
is_marked n questions block k q within there home =
    all_there (zeros n) 0 questions block k (within_zeros n block within) (inr (record { number = k; question = q; there = there; home = home; bit = omega arith }))

same_question : (questions : List Question) (k j : ℕ) (q other : Question) → k ≡ 0 + j → slice_get questions k ≡ Some q → slice_get questions j ≡ Some other → q ≡ other
same_question questions k j q other e a b =
    let n : k ≡ j = omega arith in
    let c : slice_get questions j ≡ Some q = subst (λ (i : ℕ). slice_get questions i ≡ Some q) n a in
    cc

pub is_home : (n : ℕ) (questions : List Question) (block k : ℕ) (q : Question) → block < n → slice_get questions k ≡ Some q
    → HasBit (get_or (marks_of n questions) block 0) k → q.home ≡ block
is_home n questions block k q within there h =
    elim (all_only (zeros n) 0 questions block k (within_zeros n block within) h) [
      | inl none ↦ absurd (none_marked n block k none)
      | inr found ↦ ap (λ (x : Question). x.home) (same_question questions k found.number q found.question found.bit there found.there) ∙ found.home
    ]

-- ---- open questions

clear_or_marked : (n j : ℕ) → (bit_at n j ≡ 0) ⊎ (bit_at n j ≡ 1)
clear_or_marked n j = let h = bit_at-lt n j in grind arith

pub leads_from : (ways : List (List ℕ)) (from to : ℕ) → Leads ways from to → from < length ways
leads_from [] from to h = absurd (omega (arith, h.1))
leads_from (w ∷ ways) zero to h = omega arith
leads_from (w ∷ ways) (suc from) to h = let k = leads_from ways from to h in omega arith

not_home : (n : ℕ) (questions : List Question) (block k : ℕ) (q : Question) → block < n → slice_get questions k ≡ Some q
    → bit_at (get_or (marks_of n questions) block 0) k ≡ 0 → q.home ≡ block → ⊥
not_home n questions block k q within there clear home =
    let bit = is_marked n questions block k q within there home in omega (arith, clear, bit)

is_clear : (n : ℕ) (questions : List Question) (block k : ℕ) (q : Question) → block < n → slice_get questions k ≡ Some q
    → (q.home ≡ block → ⊥) → (bit_at (get_or (marks_of n questions) block 0) k ≡ 0) ⊎ (bit_at (get_or (marks_of n questions) block 0) k ≡ 1)
    → bit_at (get_or (marks_of n questions) block 0) k ≡ 0
is_clear n questions block k q within there other (inl clear) = clear
is_clear n questions block k q within there other (inr bit) = absurd (other (is_home n questions block k q within there bit))

none_is : (ways : List (List ℕ)) (questions : List Question) (k : ℕ) (q : Question) → slice_get questions k ≡ Some q
    → {block : ℕ} {before : List ℕ} → IsPath ways block before → NoneAnswers (marks_of (length ways) questions) k before → NoneIs q.home before
none_is ways questions k q there entry none = tt
none_is ways questions k q there (onward from to before path leads) none =
    (not_home (length ways) questions from k q (leads_from ways from to leads) there none.0, none_is ways questions k q there path none.1)

none_answers : (ways : List (List ℕ)) (questions : List Question) (k : ℕ) (q : Question) → slice_get questions k ≡ Some q
    → {block : ℕ} {before : List ℕ} → IsPath ways block before → NoneIs q.home before → NoneAnswers (marks_of (length ways) questions) k before
none_answers ways questions k q there entry none = tt
none_answers ways questions k q there (onward from to before path leads) none = (
  is_clear (length ways) questions from k q (leads_from ways from to leads) there none.0 (clear_or_marked (get_or (marks_of (length ways) questions) from 0) k),
  none_answers ways questions k q there path none.1,
)

pub open_question : (ways : List (List ℕ)) (questions : List Question) (k : ℕ) (q : Question) → slice_get questions k ≡ Some q
    → IsOpen ways (marks_of (length ways) questions) k q.at → IsOpenQuestion ways q
open_question ways questions k q there h = record { before = h.before; path = h.path; none = none_is ways questions k q there h.path h.unanswered }

pub question_open : (ways : List (List ℕ)) (questions : List Question) (k : ℕ) (q : Question) → slice_get questions k ≡ Some q
    → IsOpenQuestion ways q → IsOpen ways (marks_of (length ways) questions) k q.at
question_open ways questions k q there h = record { before = h.before; path = h.path; unanswered = none_answers ways questions k q there h.path h.none }
