-- Laws of the tag rule: nothing refuses an access exactly if each touched granule agrees, and what refuses one is the
-- first that doesn't.
use Rattle.std.proofs.Common.{◌≡◌, ℕ, zero, suc, ◌+◌, ◌-◌, ◌*◌, ◌<◌, ◌≤◌, Bool, true, false, Option, Some, None, refl, sym, ◌∙◌, subst, inl, inr, arith}
use Rattle.std.specs.Prelude.{◌⊎◌, max, if◌then◌else◌}
use Rattle.std.proofs.lemmas.Bool.{cond-true}
use Rattle.hw_base.specs.AddressMap.{granule_of}
use Rattle.hw_base.specs.TaggedAddress.{address_of, pointer_tag}
use Rattle.hw_shadow.specs.declared.mismatch.Mismatch.{Mismatch}
use Rattle.hw_shadow.specs.declared.mismatch.Mismatch.TheVariants.{Tags}
use Rattle.hw_shadow.specs.TagRule.{tags_agree, granules_touched, end_in_granule, granule_agrees, mismatch_in, first_mismatch, refusing_of, PassesTagRule, IsFirstMismatch}

-- a choice of none is none exactly if its test holds
chosen-none : (b : Bool) (found : Mismatch) → (if b then None else Some found) ≡ None → b ≡ true
chosen-none true found h = refl
chosen-none false found h = cc

-- a granule finds nothing exactly if it agrees
pub mismatch_in-none : (number size granule : ℕ) (memory : Option ℕ) (last : ℕ) → mismatch_in number size granule memory last ≡ None → granule_agrees (pointer_tag number) (end_in_granule (address_of number) size granule) memory last ≡ true
mismatch_in-none number size granule None last h = cc
mismatch_in-none number size granule (Some memory) last h = chosen-none (tags_agree (pointer_tag number) memory (end_in_granule (address_of number) size granule) last) (Tags (16 * granule) (pointer_tag number) memory last (end_in_granule (address_of number) size granule)) h

pub mismatch_in-agrees : (number size granule : ℕ) (memory : Option ℕ) (last : ℕ) → granule_agrees (pointer_tag number) (end_in_granule (address_of number) size granule) memory last ≡ true → mismatch_in number size granule memory last ≡ None
mismatch_in-agrees number size granule None last h = cc
mismatch_in-agrees number size granule (Some memory) last h = cond-true (tags_agree (pointer_tag number) memory (end_in_granule (address_of number) size granule) last) None (Some (Tags (16 * granule) (pointer_tag number) memory last (end_in_granule (address_of number) size granule))) h

-- the first of a finding and a later one
first : Option Mismatch → Option Mismatch → Option Mismatch
first now later = elim now [ None ↦ later | Some found ↦ Some found ]

first-none : (now later : Option Mismatch) → first now later ≡ None → (now ≡ None) × (later ≡ None)
unfolding first
first-none None later h = (refl, h)
first-none (Some found) later h = cc

none-first : (now later : Option Mismatch) → now ≡ None → first now later ≡ later
unfolding first
none-first None later h = refl
none-first (Some found) later h = cc

first-some : (now later : Option Mismatch) (found : Mismatch) → first now later ≡ Some found → (now ≡ Some found) ⊎ ((now ≡ None) × (later ≡ Some found))
unfolding first
first-some None later found h = inr (refl, h)
first-some (Some other) later found h = inl h

module _ (tag : ℕ → Option ℕ) (last : ℕ → ℕ) (number size : ℕ) where
  -- what a granule finds
  found_in : ℕ → Option Mismatch
  found_in granule = mismatch_in number size granule (tag granule) (last granule)

  first_mismatch-suc : (count granule : ℕ) → first_mismatch tag last number size (suc count) granule ≡ first (found_in granule) (first_mismatch tag last number size count (granule + 1))
  unfolding first_mismatch first found_in
  first_mismatch-suc count granule = refl

  first_mismatch-zero : (granule : ℕ) → first_mismatch tag last number size zero granule ≡ None
  unfolding first_mismatch
  first_mismatch-zero granule = refl

  first_mismatch-none : (count granule : ℕ) → first_mismatch tag last number size count granule ≡ None → (k : ℕ) → k < count → found_in (granule + k) ≡ None
  first_mismatch-none zero granule h k below = absurd (omega arith)
  first_mismatch-none (suc count) granule h zero below =
      let parts = first-none (found_in granule) (first_mismatch tag last number size count (granule + 1)) (sym (first_mismatch-suc count granule) ∙ h) in
      let same : granule ≡ granule + 0 = omega arith in
      subst (λ (g : ℕ). found_in g ≡ None) same parts.0
  first_mismatch-none (suc count) granule h (suc k) below =
      let parts = first-none (found_in granule) (first_mismatch tag last number size count (granule + 1)) (sym (first_mismatch-suc count granule) ∙ h) in
      let same : granule + 1 + k ≡ granule + suc k = omega arith in
      subst (λ (g : ℕ). found_in g ≡ None) same (first_mismatch-none count (granule + 1) parts.1 k (omega arith))

  first_mismatch-passes : (count granule : ℕ) → ((k : ℕ) → k < count → found_in (granule + k) ≡ None) → first_mismatch tag last number size count granule ≡ None
  first_mismatch-passes zero granule all = first_mismatch-zero granule
  first_mismatch-passes (suc count) granule all =
      let same : granule + 0 ≡ granule = omega arith in
      let here : found_in granule ≡ None = subst (λ (g : ℕ). found_in g ≡ None) same (all 0 (omega arith)) in
      let rest : first_mismatch tag last number size count (granule + 1) ≡ None = first_mismatch-passes count (granule + 1) (λ (k : ℕ) (below : k < count). let moved : granule + suc k ≡ granule + 1 + k = omega arith in subst (λ (g : ℕ). found_in g ≡ None) moved (all (suc k) (omega arith))) in
      first_mismatch-suc count granule ∙ (none-first (found_in granule) (first_mismatch tag last number size count (granule + 1)) here ∙ rest)

  first_mismatch-some : (count granule : ℕ) (found : Mismatch) → first_mismatch tag last number size count granule ≡ Some found → (k : ℕ) × (k < count) × (found_in (granule + k) ≡ Some found) × ((j : ℕ) → j < k → found_in (granule + j) ≡ None)
  first_mismatch-some zero granule found h = absurd (let none = first_mismatch-zero granule in cc)
  first_mismatch-some (suc count) granule found h =
      elim (first-some (found_in granule) (first_mismatch tag last number size count (granule + 1)) found (sym (first_mismatch-suc count granule) ∙ h)) [
        | inl here ↦
            let same : granule ≡ granule + 0 = omega arith in
            (0, omega arith, subst (λ (g : ℕ). found_in g ≡ Some found) same here, λ j below. absurd (omega arith))
        | inr later ↦ later_some (first_mismatch-some count (granule + 1) found later.1) later.0
      ]
    where
      later_some : (k : ℕ) × (k < count) × (found_in (granule + 1 + k) ≡ Some found) × ((j : ℕ) → j < k → found_in (granule + 1 + j) ≡ None) → found_in granule ≡ None → (k : ℕ) × (k < suc count) × (found_in (granule + k) ≡ Some found) × ((j : ℕ) → j < k → found_in (granule + j) ≡ None)
      later_some (k, below, there, before) none =
          let same : granule + 1 + k ≡ granule + suc k = omega arith in
          (suc k, omega arith, subst (λ (g : ℕ). found_in g ≡ Some found) same there, earlier)
        where
          earlier : (j : ℕ) → j < suc k → found_in (granule + j) ≡ None
          earlier zero less = let back : granule ≡ granule + 0 = omega arith in subst (λ (g : ℕ). found_in g ≡ None) back none
          earlier (suc j) less = let moved : granule + 1 + j ≡ granule + suc j = omega arith in subst (λ (g : ℕ). found_in g ≡ None) moved (before j (omega arith))

-- the granule of a touched address is one of the touched granules
touched-count : (from size address : ℕ) → from ≤ address → address < from + size → granule_of address - granule_of from < granules_touched from size
touched-count from zero address h k = absurd (omega arith)
touched-count from (suc n) address h k = omega arith

-- each touched granule has a touched address
touched-address : (from size k : ℕ) → k < granules_touched from size → (address : ℕ) × (from ≤ address) × (address < from + size) × (granule_of address ≡ granule_of from + k)
touched-address from zero k h = absurd (omega arith)
touched-address from (suc n) k h = (max from (16 * (granule_of from + k)), omega arith, omega arith, omega arith)

pub refusing_of-none : (tag : ℕ → Option ℕ) (last : ℕ → ℕ) (number size : ℕ) → refusing_of tag last number size ≡ None → PassesTagRule tag last number size
unfolding found_in
refusing_of-none tag last number size h address low high =
    let k : ℕ = granule_of address - granule_of (address_of number) in
    let same : granule_of (address_of number) + k ≡ granule_of address = omega arith in
    let none = first_mismatch-none tag last number size (granules_touched (address_of number) size) (granule_of (address_of number)) h k (touched-count (address_of number) size address low high) in
    mismatch_in-none number size (granule_of address) (tag (granule_of address)) (last (granule_of address)) (subst (λ (g : ℕ). found_in tag last number size g ≡ None) same none)

pub passes-refusing_of : (tag : ℕ → Option ℕ) (last : ℕ → ℕ) (number size : ℕ) → PassesTagRule tag last number size → refusing_of tag last number size ≡ None
unfolding found_in
passes-refusing_of tag last number size passes =
    first_mismatch-passes tag last number size (granules_touched (address_of number) size) (granule_of (address_of number)) each
  where
    each : (k : ℕ) → k < granules_touched (address_of number) size → found_in tag last number size (granule_of (address_of number) + k) ≡ None
    each k below =
        let (address, low, high, same) = touched-address (address_of number) size k below in
        let here = mismatch_in-agrees number size (granule_of address) (tag (granule_of address)) (last (granule_of address)) (passes address low high) in
        subst (λ (g : ℕ). found_in tag last number size g ≡ None) same here

pub refusing_of-some : (tag : ℕ → Option ℕ) (last : ℕ → ℕ) (number size : ℕ) (found : Mismatch) → refusing_of tag last number size ≡ Some found → (k : ℕ) × IsFirstMismatch tag last number size k found
unfolding found_in
refusing_of-some tag last number size found h =
    let (k, below, here, before) = first_mismatch-some tag last number size (granules_touched (address_of number) size) (granule_of (address_of number)) found h in
    (k, record { touched = below; here = here; before = before })
