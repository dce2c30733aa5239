-- The place that is found is the least, and where none is found there is none.
use Rattle.std.proofs.Common.{◌≡◌, ℕ, zero, suc, ◌+◌, ◌-◌, ◌*◌, ◌/◌, ◌<◌, ◌≤◌, Bool, true, false, ◌&&◌, List, Option, Some, None, refl, sym, ◌∙◌, subst, inl, inr, arith}
use Rattle.std.specs.Prelude.{◌⊎◌, nat_le}
use Rattle.std.specs.List.{list_all}
use Rattle.std.proofs.lemmas.Bool.{cases_lt}
use Rattle.std.proofs.lemmas.Bool.Decides.{nat_tests}
use Rattle.hw_tags.specs.LeastPlace.{Span, is_apart, is_place, first_place, least_fit, IsPlace, IsLeastPlace}

-- an address or a later one, by whether it is a place
first_of : Bool → ℕ → Option ℕ → Option ℕ
first_of t address later = elim t [ true ↦ Some address | false ↦ later ]

first_of-some : (t : Bool) (address found : ℕ) (later : Option ℕ) → first_of t address later ≡ Some found → ((t ≡ true) × (address ≡ found)) ⊎ ((t ≡ false) × (later ≡ Some found))
unfolding first_of
first_of-some true address found later h = inl (refl, cc)
first_of-some false address found later h = inr (refl, h)

first_of-none : (t : Bool) (address : ℕ) (later : Option ℕ) → first_of t address later ≡ None → (t ≡ false) × (later ≡ None)
unfolding first_of
first_of-none true address later h = cc
first_of-none false address later h = (refl, h)

module _ (spans : List Span) (size end : ℕ) where
  first_place-suc : (tries a : ℕ) → first_place spans size end (suc tries) a ≡ first_of (is_place spans size end a) a (first_place spans size end tries (a + 16))
  unfolding first_place first_of
  first_place-suc tries a = refl

  first_place-zero : (a : ℕ) → first_place spans size end zero a ≡ None
  unfolding first_place
  first_place-zero a = refl

  -- what is found is a place, and none of the ones before it is
  first_place-some : (tries a found : ℕ) → first_place spans size end tries a ≡ Some found → (k : ℕ) × (found ≡ a + 16 * k) × (is_place spans size end found ≡ true) × ((j : ℕ) → j < k → is_place spans size end (a + 16 * j) ≡ false)
  first_place-some zero a found h = let none = first_place-zero a in cc
  first_place-some (suc tries) a found h =
      elim (first_of-some (is_place spans size end a) a found (first_place spans size end tries (a + 16)) (sym (first_place-suc tries a) ∙ h)) [
        | inl here ↦ (0, omega arith, subst (λ (b : ℕ). is_place spans size end b ≡ true) here.1 here.0, λ j below. absurd (omega arith))
        | inr later ↦
            let (k, same, place, before) = first_place-some tries (a + 16) found later.1 in
            (suc k, omega arith, place, before_suc k later.0 before)
      ]
    where
      before_suc : (k : ℕ) → is_place spans size end a ≡ false → ((j : ℕ) → j < k → is_place spans size end (a + 16 + 16 * j) ≡ false) → (j : ℕ) → j < suc k → is_place spans size end (a + 16 * j) ≡ false
      before_suc k here before zero below = let same : a ≡ a + 16 * 0 = omega arith in subst (λ (b : ℕ). is_place spans size end b ≡ false) same here
      before_suc k here before (suc j) below = let same : a + 16 + 16 * j ≡ a + 16 * suc j = omega arith in subst (λ (b : ℕ). is_place spans size end b ≡ false) same (before j (omega arith))

  -- where none is found, none that was tried is a place
  first_place-none : (tries a : ℕ) → first_place spans size end tries a ≡ None → (k : ℕ) → k < tries → is_place spans size end (a + 16 * k) ≡ false
  first_place-none zero a h k below = absurd (omega arith)
  first_place-none (suc tries) a h zero below =
      let parts = first_of-none (is_place spans size end a) a (first_place spans size end tries (a + 16)) (sym (first_place-suc tries a) ∙ h) in
      let same : a ≡ a + 16 * 0 = omega arith in
      subst (λ (b : ℕ). is_place spans size end b ≡ false) same parts.0
  first_place-none (suc tries) a h (suc k) below =
      let parts = first_of-none (is_place spans size end a) a (first_place spans size end tries (a + 16)) (sym (first_place-suc tries a) ∙ h) in
      let same : a + 16 + 16 * k ≡ a + 16 * suc k = omega arith in
      subst (λ (b : ℕ). is_place spans size end b ≡ false) same (first_place-none tries (a + 16) parts.1 k (omega arith))

-- the first part of two tests
front : (s t : Bool) → s && t ≡ true → s ≡ true
front true t h = refl
front false t h = cc

place-within : (spans : List Span) (size end a : ℕ) → is_place spans size end a ≡ true → a + size ≤ end
place-within spans size end a h =
    let within : nat_le (a + size) end ≡ true = front (nat_le (a + size) end) (list_all (is_apart a size) spans) h in
    grind (arith, nat_tests)

pub least_fit-some : (spans : List Span) (size from end a : ℕ) → 16 ≤ size → least_fit spans size from end ≡ Some a → IsLeastPlace spans size from end a
least_fit-some spans size from end a large h =
    let (k, same, fits, before) = first_place-some spans size end ((end - from) / 16) from a h in
    record {
      place = record { low = omega arith; in_steps = omega arith; fits = fits };
      least = λ other p. least k same before other p;
    }
  where
    least : (k : ℕ) → a ≡ from + 16 * k → ((j : ℕ) → j < k → is_place spans size end (from + 16 * j) ≡ false) → (other : ℕ) → IsPlace spans size from end other → a ≤ other
    least k same before other p =
        elim (cases_lt ((other - from) / 16) k) [
          | inl below ↦
              let low = p.low in
              let steps = p.in_steps in
              let at : from + 16 * ((other - from) / 16) ≡ other = omega arith in
              let no = subst (λ (b : ℕ). is_place spans size end b ≡ false) at (before ((other - from) / 16) below) in
              let yes_ = p.fits in
              absurd (cc)
          | inr above ↦ let low = p.low in let steps = p.in_steps in omega arith
        ]

pub least_fit-none : (spans : List Span) (size from end : ℕ) → 16 ≤ size → least_fit spans size from end ≡ None → (a : ℕ) → ¬ IsPlace spans size from end a
least_fit-none spans size from end large h a p =
    let low = p.low in
    let steps = p.in_steps in
    let fits = p.fits in
    let within = place-within spans size end a p.fits in
    let at : from + 16 * ((a - from) / 16) ≡ a = omega arith in
    let no = subst (λ (b : ℕ). is_place spans size end b ≡ false) at (first_place-none spans size end ((end - from) / 16) from h ((a - from) / 16) (omega arith)) in
    cc
