-- Questions that come to their blocks are the open ones.
use Rattle.std.proofs.Common.{◌≡◌, ℕ, zero, suc, ◌+◌, ◌<◌, ◌⊎◌, inl, inr, Bool, true, false, not, List, [], ◌∷◌, drop, length, get_or, slice_get, Option, Some, refl, sym, subst, ap, ◌∙◌, arith}
use Rattle.ir_core.specs.declared.refusals.Refusal.{Refusal}
use Rattle.ir_core.specs.declared.faults.Fault.TheVariants.{NotOnEveryPath}
use Rattle.ir_check_types.specs.Order.{earlier, unless, refusal_at}
use Rattle.ir_check_types.proofs.FirstOfSeveral.{earlier_assoc}
use Rattle.ir_check_flow.specs.declared.question.Question.{Question}
use Rattle.ir_check_flow.specs.Answering.{has_come, come_fault}
use Rattle.ir_check_flow.specs.First.{IsFirstOf}
use Rattle.ir_check_flow.proofs.Asked.{next_of}
use Rattle.ir_check_flow.proofs.FirstOne.{same_first, first_of_both, first_unless}

pub come_more : (reach : List ℕ) (first : Option Refusal) (questions : List Question) (k : ℕ) (d : Question) (x : Option Refusal) → k < length questions
    → earlier first (come_fault reach k (drop k questions)) ≡ x
    → earlier (earlier first (unless (not (has_come reach k (get_or questions k d))) NotOnEveryPath (get_or questions k d).place)) (come_fault reach (k + 1) (drop (k + 1) questions)) ≡ x
come_more reach first questions k d x there h =
    earlier_assoc first (unless (not (has_come reach k (get_or questions k d))) NotOnEveryPath (get_or questions k d).place) (come_fault reach (k + 1) (drop (k + 1) questions))
    ∙ ap (λ list. earlier first (come_fault reach k list)) (sym (next_of questions k d there)) ∙ h

-- the refusals for questions from number k on that have come
pub record HasCome (reach : List ℕ) (k : ℕ) (questions : List Question) (refusal : Refusal) : Type 0 where
  pub number : ℕ
  pub question : Question
  pub there : slice_get questions number ≡ Some question
  pub refused : refusal ≡ refusal_at NotOnEveryPath question.place
  pub come : has_come reach (k + number) question ≡ true

not_false : (b : Bool) → not b ≡ false → b ≡ true
not_false true e = refl
not_false false e = cc

to_all : (reach : List ℕ) (k : ℕ) (q : Question) (questions : List Question) (r : Refusal)
    → ((not (has_come reach k q) ≡ false) × (r ≡ refusal_at NotOnEveryPath q.place)) ⊎ HasCome reach (k + 1) questions r → HasCome reach k (q ∷ questions) r
to_all reach k q questions r (inl h) = record {
  number = 0;
  question = q;
  there = refl;
  refused = h.1;
  come = subst (λ (n : ℕ). has_come reach n q ≡ true) (omega arith) (not_false (has_come reach k q) h.0);
}
to_all reach k q questions r (inr h) = record {
  number = suc h.number;
  question = h.question;
  there = h.there;
  refused = h.refused;
  come = subst (λ (n : ℕ). has_come reach n h.question ≡ true) (omega arith) h.come;
}

from_all : (reach : List ℕ) (k : ℕ) (q : Question) (questions : List Question) (r : Refusal) (number : ℕ) (question : Question)
    → slice_get (q ∷ questions) number ≡ Some question → r ≡ refusal_at NotOnEveryPath question.place → has_come reach (k + number) question ≡ true
    → ((not (has_come reach k q) ≡ false) × (r ≡ refusal_at NotOnEveryPath q.place)) ⊎ HasCome reach (k + 1) questions r
from_all reach k q questions r zero question there refused come =
    let same : q ≡ question = cc in
    inl (
      ap not (subst (λ (x : Question). has_come reach k x ≡ true) (sym same) (subst (λ (n : ℕ). has_come reach n question ≡ true) (omega arith) come)),
      refused ∙ ap (λ (x : Question). refusal_at NotOnEveryPath x.place) (sym same),
    )
from_all reach k q questions r (suc number) question there refused come =
    inr (record { number = number; question = question; there = there; refused = refused; come = subst (λ (n : ℕ). has_come reach n question ≡ true) (omega arith) come })

pub first_come : (reach : List ℕ) (k : ℕ) (questions : List Question) → IsFirstOf (HasCome reach k questions) (come_fault reach k questions)
first_come reach k [] = λ r h. cc (h.there)
first_come reach k (q ∷ questions) =
    same_first (λ r. ((not (has_come reach k q) ≡ false) × (r ≡ refusal_at NotOnEveryPath q.place)) ⊎ HasCome reach (k + 1) questions r) (HasCome reach k (q ∷ questions))
    (earlier (unless (not (has_come reach k q)) NotOnEveryPath q.place) (come_fault reach (k + 1) questions))
    (λ r h. to_all reach k q questions r h)
    (λ r h. from_all reach k q questions r h.number h.question h.there h.refused h.come)
    (first_of_both (λ r. (not (has_come reach k q) ≡ false) × (r ≡ refusal_at NotOnEveryPath q.place)) (HasCome reach (k + 1) questions)
    (unless (not (has_come reach k q)) NotOnEveryPath q.place) (come_fault reach (k + 1) questions)
    (first_unless (not (has_come reach k q)) NotOnEveryPath q.place) (first_come reach (k + 1) questions))
