-- The first of open questions, in parts.
use Rattle.std.proofs.Common.{◌≡◌, ℕ, zero, suc, ◌+◌, ◌-◌, ◌^◌, ◌<◌, ◌≤◌, ◌⊎◌, inl, inr, List, [], ◌∷◌, ◌++◌, take, drop, length, get_or, slice_get, Option, Some, None, sym, subst, ap, ◌∙◌, arith, eq-eqb, eqb-true}
use Rattle.std.proofs.Math.Seq.{take-add, take-length}
use Rattle.std.proofs.lemmas.Nat.Bits.{bit_at_ones}
use Rattle.std.specs.Int.{bit_at}
use Rattle.ir_core.specs.declared.refusals.Refusal.{Refusal}
use Rattle.ir_check_types.specs.Order.{earlier}
use Rattle.ir_check_flow.specs.declared.question.Question.{Question}
use Rattle.ir_check_flow.specs.Spreading.{HasBit, AreOpen}
use Rattle.ir_check_flow.specs.Answering.{IsOpenAmong}
use Rattle.ir_check_flow.specs.First.{IsFirstOf}
use Rattle.ir_check_flow.proofs.Come.{HasCome}
use Rattle.ir_check_flow.proofs.FirstOne.{same_first, first_of_both}
use Rattle.ir_check_flow.proofs.Marks.{marks_of, open_question, question_open}

pub there_below : {A : Type 0} (list : List A) (i : ℕ) (x : A) → slice_get list i ≡ Some x → i < length list
there_below [] i x e = cc
there_below (y ∷ list) zero x e = omega arith
there_below (y ∷ list) (suc i) x e = let h = there_below list i x e in omega arith

to_open : (ways : List (List ℕ)) (questions : List Question) (reach : List ℕ) → length questions ≤ 128
    → AreOpen ways (marks_of (length ways) questions) (2 ^ 128 - 1) reach → (r : Refusal) → HasCome reach 0 questions r → IsOpenAmong ways questions r
to_open ways questions reach few all r h =
    let below : h.number < length questions = there_below questions h.number h.question h.there in
    let bit : HasBit (get_or reach h.question.at 0) (0 + h.number) = eqb-true (bit_at (get_or reach h.question.at 0) (0 + h.number)) 1 h.come in
    let same : HasBit (get_or reach h.question.at 0) h.number = subst (λ (n : ℕ). HasBit (get_or reach h.question.at 0) n) (omega arith) bit in
    record {
      number = h.number;
      question = h.question;
      there = h.there;
      refused = h.refused;
      open_one = open_question ways questions h.number h.question h.there ((all h.question.at h.number (omega arith)).0 same).1;
    }

from_open : (ways : List (List ℕ)) (questions : List Question) (reach : List ℕ) → length questions ≤ 128
    → AreOpen ways (marks_of (length ways) questions) (2 ^ 128 - 1) reach → (r : Refusal) → IsOpenAmong ways questions r → HasCome reach 0 questions r
from_open ways questions reach few all r h =
    let below : h.number < length questions = there_below questions h.number h.question h.there in
    let small : h.number < 128 = omega arith in
    let bit : HasBit (get_or reach h.question.at 0) h.number =
    (all h.question.at h.number small).1 (bit_at_ones 128 h.number small, question_open ways questions h.number h.question h.there h.open_one) in
    let same : HasBit (get_or reach h.question.at 0) (0 + h.number) = subst (λ (n : ℕ). HasBit (get_or reach h.question.at 0) n) (omega arith) bit in
    record { number = h.number; question = h.question; there = h.there; refused = h.refused; come = eq-eqb (bit_at (get_or reach h.question.at 0) (0 + h.number)) 1 same }

pub come_is_open : (ways : List (List ℕ)) (questions : List Question) (reach : List ℕ) (found : Option Refusal) → length questions ≤ 128
    → AreOpen ways (marks_of (length ways) questions) (2 ^ 128 - 1) reach → IsFirstOf (HasCome reach 0 questions) found → IsFirstOf (IsOpenAmong ways questions) found
come_is_open ways questions reach found few all h =
    same_first (HasCome reach 0 questions) (IsOpenAmong ways questions) found (to_open ways questions reach few all) (from_open ways questions reach few all) h

-- ---- parts

pub front_there : {A : Type 0} (xs ys : List A) (i : ℕ) (x : A) → slice_get xs i ≡ Some x → slice_get (xs ++ ys) i ≡ Some x
front_there [] ys i x e = cc
front_there (y ∷ xs) ys zero x e = e
front_there (y ∷ xs) ys (suc i) x e = front_there xs ys i x e

pub back_there : {A : Type 0} (xs ys : List A) (i : ℕ) (x : A) → slice_get ys i ≡ Some x → slice_get (xs ++ ys) (length xs + i) ≡ Some x
back_there [] ys i x e = let n : i ≡ 0 + i = omega arith in subst (λ (k : ℕ). slice_get ys k ≡ Some x) n e
back_there (y ∷ xs) ys i x e =
    let n : suc (length xs + i) ≡ suc (length xs) + i = omega arith in
    subst (λ (k : ℕ). slice_get ((y ∷ xs) ++ ys) k ≡ Some x) n (back_there xs ys i x e)

pub either_there : {A : Type 0} (xs ys : List A) (i : ℕ) (x : A) → slice_get (xs ++ ys) i ≡ Some x → (slice_get xs i ≡ Some x) ⊎ ((j : ℕ) × (slice_get ys j ≡ Some x))
either_there [] ys i x e = inr (i, e)
either_there (y ∷ xs) ys zero x e = inl e
either_there (y ∷ xs) ys (suc i) x e = either_there xs ys i x e

to_both : (ways : List (List ℕ)) (xs ys : List Question) (r : Refusal) → IsOpenAmong ways xs r ⊎ IsOpenAmong ways ys r → IsOpenAmong ways (xs ++ ys) r
to_both ways xs ys r (inl h) = record { number = h.number; question = h.question; there = front_there xs ys h.number h.question h.there; refused = h.refused; open_one = h.open_one }
to_both ways xs ys r (inr h) = record { number = length xs + h.number; question = h.question; there = back_there xs ys h.number h.question h.there; refused = h.refused; open_one = h.open_one }

from_both : (ways : List (List ℕ)) (xs ys : List Question) (r : Refusal) → IsOpenAmong ways (xs ++ ys) r → IsOpenAmong ways xs r ⊎ IsOpenAmong ways ys r
from_both ways xs ys r h =
    elim (either_there xs ys h.number h.question h.there) [
      | inl front ↦ inl (record { number = h.number; question = h.question; there = front; refused = h.refused; open_one = h.open_one })
      | inr back ↦ inr (record { number = back.0; question = h.question; there = back.1; refused = h.refused; open_one = h.open_one })
    ]

pub first_in_parts : (ways : List (List ℕ)) (xs ys : List Question) (a b : Option Refusal) → IsFirstOf (IsOpenAmong ways xs) a → IsFirstOf (IsOpenAmong ways ys) b
    → IsFirstOf (IsOpenAmong ways (xs ++ ys)) (earlier a b)
first_in_parts ways xs ys a b h k =
    same_first (λ r. IsOpenAmong ways xs r ⊎ IsOpenAmong ways ys r) (IsOpenAmong ways (xs ++ ys)) (earlier a b) (to_both ways xs ys) (from_both ways xs ys)
    (first_of_both (IsOpenAmong ways xs) (IsOpenAmong ways ys) a b h k)

pub none_in_none : (ways : List (List ℕ)) → IsFirstOf (IsOpenAmong ways []) None
none_in_none ways r h = cc (h.there)

-- one part more
pub next_part : (ways : List (List ℕ)) (questions : List Question) (at to : ℕ) (a b : Option Refusal) → at ≤ to → to ≤ length questions
    → IsFirstOf (IsOpenAmong ways (take at questions)) a → IsFirstOf (IsOpenAmong ways (take (to - at) (drop at questions))) b
    → IsFirstOf (IsOpenAmong ways (take to questions)) (earlier a b)
next_part ways questions at to a b up within h k =
    let n : at + (to - at) ≡ to = omega arith in
    subst (λ (list : List Question). IsFirstOf (IsOpenAmong ways list) (earlier a b))
    (sym (take-add at (to - at) questions) ∙ ap (λ i. take i questions) n)
    (first_in_parts ways (take at questions) (take (to - at) (drop at questions)) a b h k)

pub whole : (ways : List (List ℕ)) (questions : List Question) (at : ℕ) (a : Option Refusal) → at ≤ length questions → length questions ≤ at
    → IsFirstOf (IsOpenAmong ways (take at questions)) a → IsFirstOf (IsOpenAmong ways questions) a
whole ways questions at a up down h =
    let n : at ≡ length questions = omega arith in
    subst (λ (list : List Question). IsFirstOf (IsOpenAmong ways list) a) (ap (λ i. take i questions) n ∙ take-length questions) h
