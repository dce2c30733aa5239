-- Laws of an object's tags: how many there are, and what each is.
use Rattle.std.proofs.Common.{◌≡◌, ◌≢◌, ℕ, zero, suc, ◌+◌, ◌-◌, ◌*◌, ◌/◌, ◌%◌, ◌<◌, ◌≤◌, Bool, true, false, [], ◌∷◌, length, get_or, Some, refl, sym, ◌∙◌, ap, inl, inr, arith, replicate, length-append}
use Rattle.std.specs.Prelude.{slice_get, nat_le, ◌==◌, if◌then◌else◌}
use Rattle.std.proofs.lemmas.List.{length-replicate, get_or-replicate, get_or_append_left, get_or-append_right}
use Rattle.std.proofs.lemmas.Option.{slice_get-get_or}
use Rattle.std.proofs.lemmas.Bool.{cases_lt, cond-true, cond-false}
use Rattle.std.proofs.lemmas.Bool.Decides.{nat_tests}
use Rattle.hw_base.specs.AddressMap.{rounded_size}
use Rattle.hw_shadow.specs.ObjectTags.{tag_in, short_granule, object_tags}

-- the granule with the end of an object, by whether its size is whole granules
length-short : (n : ℕ) (b : Bool) → (suc n % 16 == 0) ≡ b → suc n / 16 + length (if b then [] else suc n % 16 ∷ []) ≡ (suc n + 15) / 16
length-short n true h = grind (arith, nat_tests)
length-short n false h = grind (arith, nat_tests)

pub length-short_granule : (size : ℕ) → size / 16 + length (short_granule size) ≡ rounded_size size / 16
length-short_granule zero = refl
length-short_granule (suc n) = let e = length-short n (suc n % 16 == 0) refl in omega (arith, e)

-- An object's granules are as many as its rounded size has.
pub length-object_tags : (size tag : ℕ) → length (object_tags size tag) ≡ rounded_size size / 16
length-object_tags size tag =
    length-append (replicate (size / 16) tag) (short_granule size)
    ∙ (ap (λ (n : ℕ). n + length (short_granule size)) (length-replicate (size / 16) tag) ∙ length-short_granule size)

first-short : (n : ℕ) (b : Bool) → (suc n % 16 == 0) ≡ b → suc n / 16 < (suc n + 15) / 16 → get_or (if b then [] else suc n % 16 ∷ []) 0 0 ≡ suc n % 16
first-short n true h below = grind (arith, nat_tests)
first-short n false h below = refl

get-short_granule : (size : ℕ) → size / 16 < rounded_size size / 16 → get_or (short_granule size) 0 0 ≡ size % 16
get-short_granule zero below = refl
get-short_granule (suc n) below = first-short n (suc n % 16 == 0) refl (omega arith)

rounded-most : (size : ℕ) → rounded_size size / 16 ≤ size / 16 + 1
rounded-most zero = omega arith
rounded-most (suc n) = omega arith

-- Each granule of an object has its tag.
pub get-object_tags : (size tag k : ℕ) → k < rounded_size size / 16 → slice_get (object_tags size tag) k ≡ Some (tag_in size tag k)
get-object_tags size tag k below =
    let inside : k < length (object_tags size tag) = omega (arith, length-object_tags size tag) in
    slice_get-get_or (object_tags size tag) k 0 inside ∙ ap Some (elim (cases_lt k (size / 16)) [
      | inl low ↦
          let whole : nat_le (16 * k + 16) size ≡ true = grind (arith, nat_tests) in
          get_or_append_left (replicate (size / 16) tag) (short_granule size) 0 k (omega (arith, length-replicate (size / 16) tag))
          ∙ (get_or-replicate (size / 16) k tag 0 low ∙ sym (cond-true (nat_le (16 * k + 16) size) tag (size % 16) whole))
      | inr high ↦
          let past : nat_le (16 * k + 16) size ≡ false = grind (arith, nat_tests) in
          let most = rounded-most size in
          let same : k - size / 16 ≡ 0 = omega arith in
          get_or-append_right (replicate (size / 16) tag) (short_granule size) (size / 16) k 0 (length-replicate (size / 16) tag) high
          ∙ (ap (λ (j : ℕ). get_or (short_granule size) j 0) same
          ∙ (get-short_granule size (omega arith) ∙ sym (cond-false (nat_le (16 * k + 16) size) tag (size % 16) past)))
    ])

-- the short granule, by the size's bytes in it
short_granule-by_test : (n : ℕ) (b : Bool) → (suc n % 16 == 0) ≡ b → suc n % 16 ≢ 0 → (if b then [] else suc n % 16 ∷ []) ≡ suc n % 16 ∷ []
short_granule-by_test n true e h = absurd (h (grind (arith, nat_tests)))
short_granule-by_test n false e h = refl

whole_granule-by_test : (n : ℕ) (b : Bool) → (suc n % 16 == 0) ≡ b → suc n % 16 ≡ 0 → (if b then [] else suc n % 16 ∷ []) ≡ []
whole_granule-by_test n true e h = refl
whole_granule-by_test n false e h = grind (arith, nat_tests)

pub short_granule-some : (size : ℕ) → size % 16 ≢ 0 → short_granule size ≡ size % 16 ∷ []
short_granule-some zero h = refl
short_granule-some (suc n) h = short_granule-by_test n (suc n % 16 == 0) refl h

pub short_granule-empty : (size : ℕ) → size ≡ 0 → short_granule size ≡ size % 16 ∷ []
short_granule-empty zero h = refl
short_granule-empty (suc n) h = absurd (omega (arith, h))

pub short_granule-none : (size : ℕ) → size % 16 ≡ 0 → size ≢ 0 → short_granule size ≡ []
short_granule-none zero h k = absurd (k refl)
short_granule-none (suc n) h k = whole_granule-by_test n (suc n % 16 == 0) refl h
