-- The first refusal for one of several things, one thing after the other.
use Rattle.std.proofs.Common.{◌≡◌, ℕ, zero, suc, ◌+◌, ◌<◌, ◌⊎◌, inl, inr, List, [], ◌∷◌, ◌++◌, take, length, get_or, slice_get, Option, Some, None, refl, sym, subst, ap, ◌∙◌, add-one}
use Rattle.std.proofs.Math.Seq.{take-suc, take-length}
use Rattle.ir_core.specs.declared.refusals.Refusal.{Refusal}
use Rattle.ir_check_types.specs.Order.{earlier}
use Rattle.ir_check_flow.specs.Check.{IsAmong}
use Rattle.ir_check_flow.specs.First.{IsFirstOf}
use Rattle.ir_check_flow.proofs.FirstOne.{same_first, first_of_both}
use Rattle.ir_check_flow.proofs.OpenOnes.{front_there, back_there}

in_front : {A : Type 0} (P : A → Refusal → Type 0) (xs ys : List A) (r : Refusal) → IsAmong P xs r → IsAmong P (xs ++ ys) r
in_front P xs ys r h = record { number = h.number; thing = h.thing; there = front_there xs ys h.number h.thing h.there; refused = h.refused }

at_end : {A : Type 0} (P : A → Refusal → Type 0) (xs : List A) (x : A) (r : Refusal) → P x r → IsAmong P (xs ++ x ∷ []) r
at_end P xs x r h = record { number = length xs + 0; thing = x; there = back_there xs (x ∷ []) 0 x refl; refused = h }

last_or_before : {A : Type 0} (xs : List A) (x y : A) (number : ℕ) → slice_get (xs ++ x ∷ []) number ≡ Some y → (slice_get xs number ≡ Some y) ⊎ (y ≡ x)
last_or_before [] x y zero e = inr cc
last_or_before [] x y (suc number) e = cc
last_or_before (z ∷ xs) x y zero e = inl e
last_or_before (z ∷ xs) x y (suc number) e = last_or_before xs x y number e

in_either : {A : Type 0} (P : A → Refusal → Type 0) (xs : List A) (x : A) (r : Refusal) → IsAmong P (xs ++ x ∷ []) r → IsAmong P xs r ⊎ P x r
in_either {A} P xs x r h =
    elim (last_or_before xs x h.thing h.number h.there) [
      | inl before ↦ inl (record { number = h.number; thing = h.thing; there = before; refused = h.refused })
      | inr last ↦ inr (subst (λ (y : A). P y r) last h.refused)
    ]

with_last : {A : Type 0} (P : A → Refusal → Type 0) (xs : List A) (x : A) (a b : Option Refusal) → IsFirstOf (IsAmong P xs) a → IsFirstOf (P x) b
    → IsFirstOf (IsAmong P (xs ++ x ∷ [])) (earlier a b)
with_last P xs x a b h k =
    same_first (λ r. IsAmong P xs r ⊎ P x r) (IsAmong P (xs ++ x ∷ [])) (earlier a b)
    (λ r it. elim it [ inl p ↦ in_front P xs (x ∷ []) r p | inr q ↦ at_end P xs x r q ])
    (λ r it. in_either P xs x r it)
    (first_of_both (IsAmong P xs) (P x) a b h k)

-- one thing more
pub next_thing : {A : Type 0} (P : A → Refusal → Type 0) (things : List A) (i : ℕ) (x : A) (a b : Option Refusal) → i < length things → x ≡ get_or things i x
    → IsFirstOf (IsAmong P (take i things)) a → IsFirstOf (P x) b → IsFirstOf (IsAmong P (take (i + 1) things)) (earlier a b)
next_thing {A} P things i x a b there at h k =
    let list : take i things ++ x ∷ [] ≡ take (i + 1) things =
    ap (λ (y : A). take i things ++ y ∷ []) at ∙ sym (ap (λ j. take j things) (add-one i) ∙ take-suc things i x there) in
    subst (λ (l : List A). IsFirstOf (IsAmong P l) (earlier a b)) list (with_last P (take i things) x a b h k)

pub no_thing : {A : Type 0} (P : A → Refusal → Type 0) → IsFirstOf (IsAmong P []) None
no_thing P r h = cc (h.there)

pub all_things : {A : Type 0} (P : A → Refusal → Type 0) (i : ℕ) (things : List A) (a : Option Refusal) → i ≡ length things → IsFirstOf (IsAmong P (take i things)) a
    → IsFirstOf (IsAmong P things) a
all_things {A} P i things a e h = subst (λ (l : List A). IsFirstOf (IsAmong P l) a) (ap (λ j. take j things) e ∙ take-length things) h
