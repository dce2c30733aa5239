-- The machine and the story find the same place for a new block: both know the same living blocks, in whatever order.
use Rattle.std.proofs.Common.{◌≡◌, ℕ, zero, suc, ◌+◌, ◌&&◌, Bool, true, false, nat_le, if◌then◌else◌, List, [], ◌∷◌, ◌++◌, map, slice_get, Option, Some, None, option_map, ◌⊎◌, inl, inr, refl, sym, ◌∙◌, ap}
use Rattle.std.specs.List.{list_all, flat_map}
use Rattle.std.proofs.lemmas.Option.{slice_get-map}
use Rattle.hw_base.specs.AddressMap.{rounded_size}
use Rattle.hw_tags.specs.LeastPlace.{Span, is_apart, is_place, first_place, least_fit}
use Rattle.dbg_sites.specs.ChainTable.{ChainEntry}
use Rattle.ir_machine.specs.State.{MachineSetting}
use Rattle.ir_meaning.specs.Births.{Region, Globals, Stack, Heap, is_living}
use Rattle.tag_alloc.specs.HeapBlocks as heap
use Rattle.tag_alloc.specs.declared.blocks.Block.{Block}
use Rattle.tag_story.proofs.StoryLists.{all-get}
use Rattle.tag_story.specs.Story.{StoryBirth, Story}
use Rattle.tag_story.specs.Telling.{span_of, block_spans, living_spans, place_of_block}
use Rattle.simulation.proofs.ListParts.{get-append}
use Rattle.simulation.specs.Parts.{IsBlockOf, HasBlocks}
use Rattle.simulation.specs.Relation.{HeapRelated, story_setting}

-- ---- lists with the same items

append-cases : {X : Type 0} (xs ys : List X) (i : ℕ) (x : X) → slice_get (xs ++ ys) i ≡ Some x → (slice_get xs i ≡ Some x) ⊎ ((k : ℕ) × (slice_get ys k ≡ Some x))
append-cases [] ys i x h = inr (i, h)
append-cases (z ∷ xs) ys zero x h = inl h
append-cases (z ∷ xs) ys (suc i) x h = append-cases xs ys i x h

get-after : {X : Type 0} (xs ys : List X) (k : ℕ) (x : X) → slice_get ys k ≡ Some x → (i : ℕ) × (slice_get (xs ++ ys) i ≡ Some x)
get-after [] ys k x h = (k, h)
get-after (z ∷ xs) ys k x h = let (i, there) = get-after xs ys k x h in (suc i, there)

-- an item of all lists is one of a list
record IsInFlat {X Y : Type 0} (f : X → List Y) (xs : List X) (y : Y) : Type 0 where
  j : ℕ
  x : X
  k : ℕ
  there : slice_get xs j ≡ Some x
  inner : slice_get (f x) k ≡ Some y

flat-get : {X Y : Type 0} (f : X → List Y) (xs : List X) (i : ℕ) (y : Y) → slice_get (flat_map f xs) i ≡ Some y → IsInFlat f xs y
flat-get f [] i y h = absurd cc
flat-get f (x ∷ xs) i y h =
    elim (append-cases (f x) (flat_map f xs) i y h) [
      | inl here ↦ record { j = 0; x = x; k = i; there = refl; inner = here }
      | inr later ↦ let rest = flat-get f xs later.0 y later.1 in record { j = suc rest.j; x = rest.x; k = rest.k; there = rest.there; inner = rest.inner }
    ]

get-flat : {X Y : Type 0} (f : X → List Y) (xs : List X) (j k : ℕ) (x : X) (y : Y) → slice_get xs j ≡ Some x → slice_get (f x) k ≡ Some y → (i : ℕ) × (slice_get (flat_map f xs) i ≡ Some y)
get-flat f [] j k x y there inner = absurd cc
get-flat f (z ∷ xs) zero k x y there inner =
    let same : z ≡ x = cc in
    (k, get-append (f z) (flat_map f xs) k y (ap (λ w. slice_get (f w) k) same ∙ inner))
get-flat f (z ∷ xs) (suc j) k x y there inner =
    let (i, rest) = get-flat f xs j k x y there inner in get-after (f z) (flat_map f xs) i y rest

all-if : {X : Type 0} (p : X → Bool) (xs : List X) → ((i : ℕ) (x : X) → slice_get xs i ≡ Some x → p x ≡ true) → list_all p xs ≡ true
all-if p [] each = refl
all-if p (x ∷ xs) each = ap (λ bit. bit && list_all p xs) (each 0 x refl) ∙ all-if p xs (λ i y h. each (suc i) y h)

abbrev AreAmong : {X : Type 0} → List X → List X → Type 0
AreAmong {X} xs ys = (i : ℕ) (x : X) → slice_get xs i ≡ Some x → (j : ℕ) × (slice_get ys j ≡ Some x)

all-among : {X : Type 0} (p : X → Bool) (xs ys : List X) → AreAmong xs ys → list_all p ys ≡ true → list_all p xs ≡ true
all-among p xs ys among all = all-if p xs (λ i x h. let (j, there) = among i x h in all-get p ys j x all there)

all-same : {X : Type 0} (p : X → Bool) (xs ys : List X) → AreAmong xs ys → AreAmong ys xs → list_all p xs ≡ list_all p ys
all-same p xs ys among also = by_test (list_all p xs) (list_all p ys) refl refl
  where
    by_test : (s t : Bool) → list_all p xs ≡ s → list_all p ys ≡ t → s ≡ t
    by_test true true a b = refl
    by_test false false a b = refl
    by_test true false a b = sym (all-among p ys xs also a) ∙ b
    by_test false true a b = sym (sym (all-among p xs ys among b) ∙ a)

first-same : (xs ys : List Span) (size end : ℕ) → ((address : ℕ) → list_all (is_apart address size) xs ≡ list_all (is_apart address size) ys) → (tries address : ℕ) → first_place xs size end tries address ≡ first_place ys size end tries address
unfolding first_place
first-same xs ys size end same zero address = refl
first-same xs ys size end same (suc tries) address =
    ap (λ (bit : Bool). elim bit [ true ↦ Some address | false ↦ first_place xs size end tries (address + 16) ]) (ap (λ bit. nat_le (address + size) end && bit) (same address))
    ∙ ap (λ (later : Option ℕ). elim (is_place ys size end address) [ true ↦ Some address | false ↦ later ]) (first-same xs ys size end same tries (address + 16))

-- ---- living blocks

module _ (table : List ChainEntry) (births : List StoryBirth) (blocks : List Block) (has : HasBlocks table births blocks) where
  block-span : (block : Block) (birth : StoryBirth) → IsBlockOf table births block birth → block_spans birth.region birth.life birth.objects ≡ heap.span_of block ∷ []
  block-span block birth is =
      ap (λ (r : Region). block_spans r birth.life birth.objects) is.region
      ∙ ap (λ (bit : Bool). if bit then map span_of birth.objects else []) is.alive
      ∙ ap (map span_of) is.objects

  blocks-among : AreAmong (map heap.span_of blocks) (living_spans births)
  blocks-among i span h = by_block (slice_get blocks i) refl
    where
      mapped : option_map heap.span_of (slice_get blocks i) ≡ Some span
      mapped = sym (slice_get-map heap.span_of blocks i) ∙ h

      by_block : (o : Option Block) → slice_get blocks i ≡ o → (j : ℕ) × (slice_get (living_spans births) j ≡ Some span)
      by_block None here = let none : option_map heap.span_of None ≡ Some span = ap (option_map heap.span_of) (sym here) ∙ mapped in absurd cc
      by_block (Some block) here =
          let one : option_map heap.span_of (Some block) ≡ Some span = ap (option_map heap.span_of) (sym here) ∙ mapped in
          let (birth, is) = has.from i block here in
          get-flat (λ (b : StoryBirth). block_spans b.region b.life b.objects) births block.birth 0 birth span is.there (ap (λ spans. slice_get spans 0) (block-span block birth is) ∙ one)

  spans-among : AreAmong (living_spans births) (map heap.span_of blocks)
  spans-among i span h =
      let flat = flat-get (λ (b : StoryBirth). block_spans b.region b.life b.objects) births i span h in
      by_region flat.j flat.x flat.k flat.x.region refl flat.there flat.inner
    where
      by_life : (j : ℕ) (birth : StoryBirth) (k : ℕ) (bit : Bool) → birth.region ≡ Heap → is_living birth.life ≡ bit → slice_get births j ≡ Some birth → slice_get (if bit then map span_of birth.objects else []) k ≡ Some span → (i : ℕ) × (slice_get (map heap.span_of blocks) i ≡ Some span)
      by_life j birth k false region dead there inner = absurd cc
      by_life j birth k true region alive there inner =
          let (at, block, here, number) = has.to j birth there region alive in
          let (other, is) = has.from at block here in
          let one : Some other ≡ Some birth = sym is.there ∙ ap (slice_get births) number ∙ there in
          let same : other ≡ birth = cc in
          let only : slice_get (heap.span_of block ∷ []) k ≡ Some span = ap (λ objects. slice_get (map span_of objects) k) (sym is.objects) ∙ ap (λ (b : StoryBirth). slice_get (map span_of b.objects) k) same ∙ inner in
          (at, slice_get-map heap.span_of blocks at ∙ ap (option_map heap.span_of) here ∙ single k only)
        where
          single : {X : Type 0} {x y : X} (k : ℕ) → slice_get (x ∷ []) k ≡ Some y → Some x ≡ Some y
          single zero e = e
          single (suc k) e = absurd cc

      by_region : (j : ℕ) (birth : StoryBirth) (k : ℕ) (region : Region) → birth.region ≡ region → slice_get births j ≡ Some birth → slice_get (block_spans region birth.life birth.objects) k ≡ Some span → (i : ℕ) × (slice_get (map heap.span_of blocks) i ≡ Some span)
      by_region j birth k Globals is there inner = absurd cc
      by_region j birth k (Stack func) is there inner = absurd cc
      by_region j birth k Heap is there inner = by_life j birth k (is_living birth.life) is refl there inner

  apart-same : (address size : ℕ) → list_all (is_apart address size) (map heap.span_of blocks) ≡ list_all (is_apart address size) (living_spans births)
  apart-same address size = all-same (is_apart address size) (map heap.span_of blocks) (living_spans births) blocks-among spans-among

  pub fit-same : (size from end : ℕ) → least_fit (map heap.span_of blocks) size from end ≡ least_fit (living_spans births) size from end
  fit-same size from end = first-same (map heap.span_of blocks) (living_spans births) size end (λ address. apart-same address size) _ from

-- the machine's place of a new block is the story's
pub place-same : (setting : MachineSetting) (w : Story) (table : List ChainEntry) (m : heap.HeapState) (size : ℕ) → HeapRelated setting w table m → heap.place_of_new m size ≡ place_of_block (story_setting setting) w size
place-same setting w table m size related =
    ap (λ from. least_fit (map heap.span_of m.living) (rounded_size size) from m.end) related.from
    ∙ ap (least_fit (map heap.span_of m.living) (rounded_size size) setting.places.heap_at) related.end
    ∙ fit-same table w.births m.living related.blocks (rounded_size size) setting.places.heap_at (setting.places.heap_at + setting.places.heap_length)
