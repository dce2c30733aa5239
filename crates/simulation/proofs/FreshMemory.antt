-- Memory after objects were born in it: each is zero and tagged, a short granule ends in its tag, and all else is as it was.
use Rattle.std.proofs.Common.{◌≡◌, ◌≢◌, ℕ, zero, suc, ◌+◌, ◌-◌, ◌/◌, ◌%◌, ◌<◌, ◌≤◌, ◌==◌, Bool, true, false, if◌then◌else◌, List, [], ◌∷◌, slice_get, replicate, Option, Some, None, is_some, ◌⊎◌, inl, inr, refl, sym, ◌∙◌, ap, subst, arith}
use Rattle.std.proofs.lemmas.Bool.{cases_eq}
use Rattle.std.proofs.lemmas.Bool.Decides.{eqb_tells}
use Rattle.hw_base.specs.AddressMap.{rounded_size, granule_of}
use Rattle.hw_shadow.proofs.ObjectTagLemmas.{get-object_tags}
use Rattle.hw_shadow.specs.ObjectTags.{tag_in, object_tags}
use Rattle.stack_tags.specs.FrameSteps.{with_variables}
use Rattle.tag_story.proofs.BirthPlaces.{rounded-some}
use Rattle.tag_story.specs.Story.{Placed}
use Rattle.tag_story.specs.StoryFacts.{AreApart}
use Rattle.tag_story.specs.StoryTags.{covers, owned_tag}
use Rattle.tag_story.specs.Telling.{variables_from}
use Rattle.tag_story.proofs.Owners.{covers-in, covers-true}
use Rattle.tbi_memory.proofs.MappedBytesLemmas.{byte_at-set_other, byte_at-set_same, byte_at-set_some, write_below, write_inside, write_some}
use Rattle.tbi_memory.proofs.SpaceLemmas.{fresh-bytes_below, fresh-bytes_above, fresh-tags_above}
use Rattle.tbi_memory.specs.AddressSpace.{AddressSpace}
use Rattle.tbi_memory.specs.MappedBytes.{Range, byte_at, set_byte, write}
use Rattle.tbi_memory.specs.ObjectMemory.{with_fresh_object}
use Rattle.simulation.proofs.Sizes.{size-rounded, short-rounded}

-- what is mapped has a byte
pub some-byte : (o : Option ℕ) → is_some o ≡ true → (old : ℕ) × (o ≡ Some old)
some-byte None h = absurd cc
some-byte (Some old) h = (old, refl)

pub get-replicated : (n i : ℕ) (v : ℕ) → i < n → slice_get (replicate {A = ℕ} n v) i ≡ Some v
get-replicated zero i v h = absurd (omega (arith, h))
get-replicated (suc n) zero v h = refl
get-replicated (suc n) (suc i) v h = get-replicated n i v (omega (arith, h))

-- ---- one object

module _ (space : AddressSpace) (x : Placed) where
  abbrev pub with_fresh : AddressSpace
  with_fresh = with_fresh_object space x.at x.size x.tag

  -- what the last byte of a short granule leaves as it is
  pub last-other : (ranges : List Range) (address : ℕ) (bit : Bool) → (bit ≡ false → address ≢ x.at + rounded_size x.size - 1) → byte_at (if bit then ranges else set_byte ranges (x.at + rounded_size x.size - 1) x.tag) address ≡ byte_at ranges address
  last-other ranges address true other = refl
  last-other ranges address false other = byte_at-set_other ranges (x.at + rounded_size x.size - 1) address x.tag (other refl)

  pub last-some : (ranges : List Range) (address : ℕ) (bit : Bool) → is_some (byte_at (if bit then ranges else set_byte ranges (x.at + rounded_size x.size - 1) x.tag) address) ≡ is_some (byte_at ranges address)
  last-some ranges address true = refl
  last-some ranges address false = byte_at-set_some ranges (x.at + rounded_size x.size - 1) address x.tag

  pub fresh-mapped : (address : ℕ) → is_some (byte_at with_fresh.bytes address) ≡ is_some (byte_at space.bytes address)
  fresh-mapped address =
      last-some (write space.bytes x.at (replicate (rounded_size x.size) 0)) address (x.size % 16 == 0)
      ∙ write_some space.bytes x.at (replicate (rounded_size x.size) 0) address

  -- a byte of the object isn't the last one of a short granule
  pub last-apart : (i : ℕ) → i < x.size → (x.size % 16 == 0) ≡ false → x.at + i ≢ x.at + rounded_size x.size - 1
  last-apart i below is same = by_test (eqb_tells (x.size % 16) 0)
    where
      by_test : (((x.size % 16 == 0) ≡ true) × (x.size % 16 ≡ 0)) ⊎ (((x.size % 16 == 0) ≡ false) × (x.size % 16 ≢ 0)) → ⊥
      by_test (inl whole) = let wrong : true ≡ false = sym whole.0 ∙ is in absurd cc
      by_test (inr short) = let other = short.1 in let ends = short-rounded x.size (omega (arith, other)) in omega (arith, below, ends, same)

  -- a short granule ends in the tag
  pub last-there : (ranges : List Range) → 0 < x.size % 16 → is_some (byte_at ranges (x.at + rounded_size x.size - 1)) ≡ true → byte_at (if (x.size % 16 == 0) then ranges else set_byte ranges (x.at + rounded_size x.size - 1) x.tag) (x.at + rounded_size x.size - 1) ≡ Some x.tag
  last-there ranges short mapped = by_test (eqb_tells (x.size % 16) 0)
    where
      by_test : (((x.size % 16 == 0) ≡ true) × (x.size % 16 ≡ 0)) ⊎ (((x.size % 16 == 0) ≡ false) × (x.size % 16 ≢ 0)) → byte_at (if (x.size % 16 == 0) then ranges else set_byte ranges (x.at + rounded_size x.size - 1) x.tag) (x.at + rounded_size x.size - 1) ≡ Some x.tag
      by_test (inl whole) = let none = whole.1 in absurd (omega (arith, none, short))
      by_test (inr is) =
          let (old, there) = some-byte (byte_at ranges (x.at + rounded_size x.size - 1)) mapped in
          ap (λ (bit : Bool). byte_at (if bit then ranges else set_byte ranges (x.at + rounded_size x.size - 1) x.tag) (x.at + rounded_size x.size - 1)) is.0
          ∙ byte_at-set_same ranges (x.at + rounded_size x.size - 1) old x.tag there

  pub fresh-zero : (i : ℕ) → i < x.size → is_some (byte_at space.bytes (x.at + i)) ≡ true → byte_at with_fresh.bytes (x.at + i) ≡ Some 0
  fresh-zero i below mapped =
      let whole = size-rounded x.size in
      let (old, there) = some-byte (byte_at space.bytes (x.at + i)) mapped in
      last-other (write space.bytes x.at (replicate (rounded_size x.size) 0)) (x.at + i) (x.size % 16 == 0) (last-apart i below)
      ∙ write_inside space.bytes x.at (replicate (rounded_size x.size) 0) i old 0 there (get-replicated (rounded_size x.size) i 0 (omega (arith, below, whole)))

  pub fresh-last : 0 < x.size % 16 → is_some (byte_at space.bytes (x.at + rounded_size x.size - 1)) ≡ true → byte_at with_fresh.bytes (x.at + rounded_size x.size - 1) ≡ Some x.tag
  fresh-last short mapped =
      last-there (write space.bytes x.at (replicate (rounded_size x.size) 0)) short
      (write_some space.bytes x.at (replicate (rounded_size x.size) 0) (x.at + rounded_size x.size - 1) ∙ mapped)

  -- outside its rounded size nothing changes
  pub fresh-outside : (address : ℕ) → (address < x.at) ⊎ (x.at + rounded_size x.size ≤ address) → byte_at with_fresh.bytes address ≡ byte_at space.bytes address
  fresh-outside address (inl below) = fresh-bytes_below space x.at x.size x.tag address below
  fresh-outside address (inr above) = fresh-bytes_above space x.at x.size x.tag address above

  pub fresh-tag : (g : ℕ) → x.at % 16 ≡ 0 → covers x g ≡ true → is_some (byte_at space.shadow g) ≡ true → byte_at with_fresh.shadow g ≡ Some (owned_tag x g)
  fresh-tag g aligned over mapped =
      let inside = covers-in x g over in
      let low = inside.0 in
      let high = inside.1 in
      let whole = rounded-some x.size in
      let many = whole.1 in
      let same : granule_of x.at + (g - granule_of x.at) ≡ g = omega (arith, aligned, low) in
      let (old, there) = some-byte (byte_at space.shadow g) mapped in
      ap (byte_at with_fresh.shadow) (sym same)
      ∙ write_inside space.shadow (granule_of x.at) (object_tags x.size x.tag) (g - granule_of x.at) old (tag_in x.size x.tag (g - granule_of x.at)) (ap (byte_at space.shadow) same ∙ there)
      (get-object_tags x.size x.tag (g - granule_of x.at) (omega (arith, aligned, low, high, many)))

  pub fresh-tag_other : (g : ℕ) → x.at % 16 ≡ 0 → covers x g ≡ false → byte_at with_fresh.shadow g ≡ byte_at space.shadow g
  fresh-tag_other g aligned not_over = by_order (Rattle.std.proofs.lemmas.Bool.cases_lt g (granule_of x.at)) (Rattle.std.proofs.lemmas.Bool.cases_lt g (granule_of x.at + rounded_size x.size / 16))
    where
      whole : rounded_size x.size % 16 ≡ 0
      whole = (rounded-some x.size).1

      by_order : (g < granule_of x.at) ⊎ (granule_of x.at ≤ g) → (g < granule_of x.at + rounded_size x.size / 16) ⊎ (granule_of x.at + rounded_size x.size / 16 ≤ g) → byte_at with_fresh.shadow g ≡ byte_at space.shadow g
      by_order (inl below) _ = write_below space.shadow (granule_of x.at) (object_tags x.size x.tag) g below
      by_order (inr low) (inr above) = fresh-tags_above space x.at x.size x.tag g above
      by_order (inr low) (inl high) =
          let many = whole in
          let over = covers-true x g (omega (arith, aligned, low)) (omega (arith, aligned, high, many)) in
          let wrong : true ≡ false = sym over ∙ not_over in
          absurd cc

  pub fresh-tag_mapped : (g : ℕ) → is_some (byte_at with_fresh.shadow g) ≡ is_some (byte_at space.shadow g)
  fresh-tag_mapped g = write_some space.shadow (granule_of x.at) (object_tags x.size x.tag) g

-- ---- several objects

-- memory after objects were born in it, the first one first
unfoldable pub with_all_fresh : AddressSpace → List Placed → AddressSpace
with_all_fresh space [] = space
with_all_fresh space (x ∷ xs) = with_all_fresh (with_fresh_object space x.at x.size x.tag) xs

-- a frame's variables are born so
pub variables-fresh : (space : AddressSpace) (word k at : ℕ) (sizes : List ℕ) → with_variables space word k at sizes ≡ with_all_fresh space (variables_from word k at sizes)
unfolding with_variables with_all_fresh variables_from
variables-fresh space word k at [] = refl
variables-fresh space word k at (size ∷ sizes) = variables-fresh (with_fresh_object space at size (Rattle.hw_tags.specs.Tag.frame_tag_of word k)) word (k + 1) (at + rounded_size size) sizes

pub one-fresh : (space : AddressSpace) (x : Placed) → with_all_fresh space (x ∷ []) ≡ with_fresh_object space x.at x.size x.tag
unfolding with_all_fresh
one-fresh space x = refl

-- an address is outside the rounded size of an object
abbrev pub IsOutsideOf : ℕ → Placed → Type 0
IsOutsideOf address x = (address < x.at) ⊎ (x.at + rounded_size x.size ≤ address)

pub all-mapped : (space : AddressSpace) (objects : List Placed) (address : ℕ) → is_some (byte_at (with_all_fresh space objects).bytes address) ≡ is_some (byte_at space.bytes address)
unfolding with_all_fresh
all-mapped space [] address = refl
all-mapped space (x ∷ xs) address = all-mapped (with_fresh_object space x.at x.size x.tag) xs address ∙ fresh-mapped space x address

pub all-outside : (space : AddressSpace) (objects : List Placed) (address : ℕ) → ((k : ℕ) (x : Placed) → slice_get objects k ≡ Some x → IsOutsideOf address x) → byte_at (with_all_fresh space objects).bytes address ≡ byte_at space.bytes address
unfolding with_all_fresh
all-outside space [] address outside = refl
all-outside space (x ∷ xs) address outside =
    all-outside (with_fresh_object space x.at x.size x.tag) xs address (λ k y h. outside (suc k) y h)
    ∙ fresh-outside space x address (outside 0 x refl)

pub all-tags_mapped : (space : AddressSpace) (objects : List Placed) (g : ℕ) → is_some (byte_at (with_all_fresh space objects).shadow g) ≡ is_some (byte_at space.shadow g)
unfolding with_all_fresh
all-tags_mapped space [] g = refl
all-tags_mapped space (x ∷ xs) g = all-tags_mapped (with_fresh_object space x.at x.size x.tag) xs g ∙ fresh-tag_mapped space x g

pub all-tags_other : (space : AddressSpace) (objects : List Placed) (g : ℕ) → ((k : ℕ) (x : Placed) → slice_get objects k ≡ Some x → (x.at % 16 ≡ 0) × (covers x g ≡ false)) → byte_at (with_all_fresh space objects).shadow g ≡ byte_at space.shadow g
unfolding with_all_fresh
all-tags_other space [] g other = refl
all-tags_other space (x ∷ xs) g other =
    all-tags_other (with_fresh_object space x.at x.size x.tag) xs g (λ k y h. other (suc k) y h)
    ∙ fresh-tag_other space x g (other 0 x refl).0 (other 0 x refl).1

-- objects that are aligned and apart from each other
pub record AreFresh (objects : List Placed) : Type 0 where
  pub aligned : (k : ℕ) (x : Placed) → slice_get objects k ≡ Some x → x.at % 16 ≡ 0
  pub apart : (k j : ℕ) (x y : Placed) → slice_get objects k ≡ Some x → slice_get objects j ≡ Some y → AreApart x y ⊎ (k ≡ j)

pub fresh-later : (x : Placed) (xs : List Placed) → AreFresh (x ∷ xs) → AreFresh xs
fresh-later x xs fresh =
    record {
      aligned = λ k y h. fresh.aligned (suc k) y h;
      apart = λ k j y z h i. elim (fresh.apart (suc k) (suc j) y z h i) [ inl apart ↦ inl apart | inr same ↦ inr (omega (arith, same)) ];
    }

-- an address of the first object is outside the later ones
pub first-outside : (x : Placed) (xs : List Placed) (address : ℕ) → AreFresh (x ∷ xs) → x.at ≤ address → address < x.at + rounded_size x.size → (k : ℕ) (y : Placed) → slice_get xs k ≡ Some y → IsOutsideOf address y
first-outside x xs address fresh low high k y h =
    elim (fresh.apart 0 (suc k) x y refl h) [
      | inl apart ↦ elim apart [ inl before ↦ inl (omega (arith, before, high)) | inr after ↦ inr (omega (arith, after, low)) ]
      | inr same ↦ absurd (omega (arith, same))
    ]

first-uncovered : (x : Placed) (xs : List Placed) (g : ℕ) → AreFresh (x ∷ xs) → covers x g ≡ true → (k : ℕ) (y : Placed) → slice_get xs k ≡ Some y → (y.at % 16 ≡ 0) × (covers y g ≡ false)
first-uncovered x xs g fresh over k y h = (fresh.aligned (suc k) y h, by_test (covers y g) refl)
  where
    by_test : (bit : Bool) → covers y g ≡ bit → covers y g ≡ false
    by_test false is = is
    by_test true is =
        let inside = covers-in x g over in
        let low = inside.0 in
        let high = inside.1 in
        let other = covers-in y g is in
        let other_low = other.0 in
        let other_high = other.1 in
        elim (fresh.apart 0 (suc k) x y refl h) [
          | inl apart ↦ elim apart [
            | inl before ↦ absurd (omega (arith, before, high, other_low))
            | inr after ↦ absurd (omega (arith, after, low, other_high))
          ]
          | inr same ↦ absurd (omega (arith, same))
        ]

pub all-zero : (space : AddressSpace) (objects : List Placed) (k i : ℕ) (x : Placed) → AreFresh objects → slice_get objects k ≡ Some x → i < x.size → is_some (byte_at space.bytes (x.at + i)) ≡ true → byte_at (with_all_fresh space objects).bytes (x.at + i) ≡ Some 0
unfolding with_all_fresh
all-zero space [] k i x fresh h below mapped = absurd cc
all-zero space (y ∷ ys) zero i x fresh h below mapped =
    let same : x ≡ y = cc in
    let whole = size-rounded y.size in
    let few : i < y.size = subst (λ (z : Placed). i < z.size) same below in
    ap (λ (z : Placed). byte_at (with_all_fresh space (y ∷ ys)).bytes (z.at + i)) same
    ∙ all-outside (with_fresh_object space y.at y.size y.tag) ys (y.at + i) (first-outside y ys (y.at + i) fresh (omega arith) (omega (arith, few, whole)))
    ∙ fresh-zero space y i few (ap (λ (z : Placed). is_some (byte_at space.bytes (z.at + i))) (sym same) ∙ mapped)
all-zero space (y ∷ ys) (suc k) i x fresh h below mapped =
    all-zero (with_fresh_object space y.at y.size y.tag) ys k i x (fresh-later y ys fresh) h below (fresh-mapped space y (x.at + i) ∙ mapped)

pub all-last : (space : AddressSpace) (objects : List Placed) (k : ℕ) (x : Placed) → AreFresh objects → slice_get objects k ≡ Some x → 0 < x.size % 16 → is_some (byte_at space.bytes (x.at + rounded_size x.size - 1)) ≡ true → byte_at (with_all_fresh space objects).bytes (x.at + rounded_size x.size - 1) ≡ Some x.tag
unfolding with_all_fresh
all-last space [] k x fresh h short mapped = absurd cc
all-last space (y ∷ ys) zero x fresh h short mapped =
    let same : x ≡ y = cc in
    let whole = (rounded-some y.size).0 in
    ap (λ (z : Placed). byte_at (with_all_fresh space (y ∷ ys)).bytes (z.at + rounded_size z.size - 1)) same
    ∙ all-outside (with_fresh_object space y.at y.size y.tag) ys (y.at + rounded_size y.size - 1) (first-outside y ys (y.at + rounded_size y.size - 1) fresh (omega (arith, whole)) (omega (arith, whole)))
    ∙ fresh-last space y (subst (λ (z : Placed). 0 < z.size % 16) same short) (ap (λ (z : Placed). is_some (byte_at space.bytes (z.at + rounded_size z.size - 1))) (sym same) ∙ mapped)
    ∙ ap (λ (z : Placed). Some z.tag) (sym same)
all-last space (y ∷ ys) (suc k) x fresh h short mapped =
    all-last (with_fresh_object space y.at y.size y.tag) ys k x (fresh-later y ys fresh) h short (fresh-mapped space y (x.at + rounded_size x.size - 1) ∙ mapped)

pub all-tags : (space : AddressSpace) (objects : List Placed) (k g : ℕ) (x : Placed) → AreFresh objects → slice_get objects k ≡ Some x → covers x g ≡ true → is_some (byte_at space.shadow g) ≡ true → byte_at (with_all_fresh space objects).shadow g ≡ Some (owned_tag x g)
unfolding with_all_fresh
all-tags space [] k g x fresh h over mapped = absurd cc
all-tags space (y ∷ ys) zero g x fresh h over mapped =
    let same : x ≡ y = cc in
    let here : covers y g ≡ true = ap (λ (z : Placed). covers z g) (sym same) ∙ over in
    all-tags_other (with_fresh_object space y.at y.size y.tag) ys g (first-uncovered y ys g fresh here)
    ∙ fresh-tag space y g (fresh.aligned 0 y refl) here mapped
    ∙ ap (λ (z : Placed). Some (owned_tag z g)) (sym same)
all-tags space (y ∷ ys) (suc k) g x fresh h over mapped =
    all-tags (with_fresh_object space y.at y.size y.tag) ys k g x (fresh-later y ys fresh) h over (fresh-tag_mapped space y g ∙ mapped)
