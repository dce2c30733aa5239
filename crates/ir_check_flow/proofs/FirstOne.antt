-- The first of refusals in two parts.
use Rattle.std.proofs.Common.{◌≡◌, ◌⊎◌, inl, inr, Bool, true, false, Option, Some, None, refl, sym, subst}
use Rattle.ir_core.specs.declared.refusals.Refusal.{Refusal}
use Rattle.ir_core.specs.declared.refusals.Place.{Place}
use Rattle.ir_core.specs.declared.faults.Fault.{Fault}
use Rattle.ir_check_types.specs.Order.{is_before, first_of_two, earlier, refusal_at, unless, fault_rank}
use Rattle.ir_check_types.proofs.FirstOfSeveral.{before_third, none_before_third, taken, kept, precedes_self}
use Rattle.ir_check_flow.specs.First.{IsFirst, IsFirstOf}

-- the same refusals have the same first one
pub same_first : (P Q : Refusal → Type 0) (found : Option Refusal) → ((r : Refusal) → P r → Q r) → ((r : Refusal) → Q r → P r) → IsFirstOf P found → IsFirstOf Q found
same_first P Q None to back none = λ r q. none r (back r q)
same_first P Q (Some first) to back h = record { one = to first h.one; before_all = λ other q. h.before_all other (back other q) }

not_before_it : (other b a : Refusal) (t : Bool) → is_before other b ≡ t → is_before b a ≡ true → is_before other a ≡ false → is_before other b ≡ false
not_before_it other b a true e f g = cc (before_third other b a e f)
not_before_it other b a false e f g = e

two_first : (P Q : Refusal → Type 0) (a b : Refusal) (t : Bool) → is_before b a ≡ t → IsFirst P a → IsFirst Q b
    → IsFirst (λ r. P r ⊎ Q r) (first_of_two a b)
two_first P Q a b true e h k =
    subst (λ (r : Refusal). IsFirst (λ r. P r ⊎ Q r) r) (sym (taken a b e))
    (record {
      one = inr k.one;
      before_all = λ other it. elim it [ inl p ↦ not_before_it other b a (is_before other b) refl e (h.before_all other p) | inr q ↦ k.before_all other q ];
    })
two_first P Q a b false e h k =
    subst (λ (r : Refusal). IsFirst (λ r. P r ⊎ Q r) r) (sym (kept a b e))
    (record {
      one = inl h.one;
      before_all = λ other it. elim it [ inl p ↦ h.before_all other p | inr q ↦ none_before_third other b a (k.before_all other q) e ];
    })

-- the first of two is the first of both kinds
pub first_of_both : (P Q : Refusal → Type 0) (a b : Option Refusal) → IsFirstOf P a → IsFirstOf Q b → IsFirstOf (λ r. P r ⊎ Q r) (earlier a b)
first_of_both P Q None None h k = λ r it. elim it [ inl p ↦ h r p | inr q ↦ k r q ]
first_of_both P Q None (Some b) h k = record {
  one = inr k.one;
  before_all = λ other it. elim it [ inl p ↦ absurd (h other p) | inr q ↦ k.before_all other q ];
}
first_of_both P Q (Some a) None h k = record {
  one = inl h.one;
  before_all = λ other it. elim it [ inl p ↦ h.before_all other p | inr q ↦ absurd (k other q) ];
}
first_of_both P Q (Some a) (Some b) h k = two_first P Q a b (is_before b a) refl h k

before_itself : (r : Refusal) → is_before r r ≡ false
before_itself r = precedes_self r.line r.column (fault_rank r.fault)

-- a refusal unless a rule holds
pub first_unless : (holds : Bool) (fault : Fault) (place : Place) → IsFirstOf (λ r. (holds ≡ false) × (r ≡ refusal_at fault place)) (unless holds fault place)
first_unless true fault place = λ r h. cc (h.0)
first_unless false fault place = record {
  one = (refl, refl);
  before_all = λ other h. subst (λ (r : Refusal). is_before r (refusal_at fault place) ≡ false) (sym h.1) (before_itself (refusal_at fault place));
}
