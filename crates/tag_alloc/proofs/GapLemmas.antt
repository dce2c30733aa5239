-- The free ranges of a heap are the gaps between its living blocks: the place that is found among them is that of the
-- definition, and a birth and a death keep them so.
use Rattle.std.proofs.Common.{◌≡◌, ◌≢◌, ℕ, zero, suc, ◌+◌, ◌-◌, ◌%◌, ◌<◌, ◌≤◌, Bool, true, false, not, ◌&&◌, List, [], ◌∷◌, ◌++◌, map, Option, Some, None, refl, sym, ◌∙◌, ap, subst, inl, inr, arith, cond}
use Rattle.std.specs.Prelude.{◌⊎◌, ◌==◌, ◌||◌, nat_eq, nat_le, nat_lt}
use Rattle.std.specs.List.{find, list_all}
use Rattle.std.proofs.lemmas.Bool.{cond_both, cond-true, cond-false, cases_lt}
use Rattle.std.proofs.lemmas.Bool.Decides.{nat_tests}
use Rattle.hw_base.specs.AddressMap.{rounded_size}
use Rattle.hw_tags.specs.LeastPlace.{is_apart, least_fit, IsPlace}
use Rattle.hw_tags.proofs.LeastPlaceLemmas.{least_fit-some, least_fit-none}
use Rattle.hw_holes.specs.declared.ranges.FreeRange.{FreeRange}
use Rattle.hw_holes.specs.FreeRanges.{AreApart, IsFree, IsNotFree, fits, place_for, taken, without_front, joined, given}
use Rattle.hw_holes.proofs.RangeLemmas.{seen, AreApart-lower}
use Rattle.hw_holes.proofs.LawLemmas.{IsFree-place_for, place_for-least, place_for-none}
use Rattle.tag_alloc.specs.declared.blocks.Block.{Block}
use Rattle.tag_alloc.specs.HeapBlocks.{span_of, with_block, without_block}
use Rattle.tag_alloc.specs.HeapTables.{end_of, AreInOrder, range_before, gaps}

pub rounded-least : (size : ℕ) → 16 ≤ rounded_size size
rounded-least zero = omega arith
rounded-least (suc n) = omega arith

pub rounded-steps : (size : ℕ) → rounded_size size % 16 ≡ 0
rounded-steps zero = refl
rounded-steps (suc n) = omega arith

range_before-some : (from to : ℕ) (ranges : List FreeRange) → from < to → range_before from to ranges ≡ record { from = from; to = to } ∷ ranges
range_before-some from to ranges h = cond-true (nat_lt from to) (record { from = from; to = to } ∷ ranges) ranges (grind (arith, nat_tests))

range_before-none : (from to : ℕ) (ranges : List FreeRange) → to ≤ from → range_before from to ranges ≡ ranges
range_before-none from to ranges h = cond-false (nat_lt from to) (record { from = from; to = to } ∷ ranges) ranges (grind (arith, nat_tests))

-- by whether there is a range
range_before-both : (from to : ℕ) (ranges : List FreeRange) (P : List FreeRange → Type 0) → (from < to → P (record { from = from; to = to } ∷ ranges)) → (to ≤ from → P ranges) → P (range_before from to ranges)
range_before-both from to ranges P some_ none_ =
    cond_both (nat_lt from to) (record { from = from; to = to } ∷ ranges) ranges P (λ h. some_ (grind (arith, nat_tests))) (λ h. none_ (grind (arith, nat_tests)))

AreInOrder-bounds : (low high : ℕ) (blocks : List Block) → AreInOrder low high blocks → low ≤ high
AreInOrder-bounds low high [] h = h
AreInOrder-bounds low high (block ∷ blocks) h =
    let later = AreInOrder-bounds (end_of block) high blocks h.2 in
    let first = h.0 in
    omega arith

-- ---- the gaps are sorted and apart

pub AreApart-gaps : (low high : ℕ) (blocks : List Block) → low % 16 ≡ 0 → high % 16 ≡ 0 → AreInOrder low high blocks → AreApart low high (gaps low high blocks)
AreApart-gaps low high [] ls hs h =
    range_before-both low high [] (λ (l : List FreeRange). AreApart low high l)
    (λ below. (record { above_low = omega arith; not_empty = below; below_high = omega arith; from_in_steps = ls; to_in_steps = hs }, tt))
    (λ _. tt)
AreApart-gaps low high (block ∷ blocks) ls hs h =
    let first = h.0 in
    let place = h.1 in
    let least = rounded-least block.size in
    let steps = rounded-steps block.size in
    let bound = AreInOrder-bounds (end_of block) high blocks h.2 in
    let later = AreApart-gaps (end_of block) high blocks (omega arith) hs h.2 in
    range_before-both low block.at (gaps (end_of block) high blocks) (λ (l : List FreeRange). AreApart low high l)
    (λ below. (record { above_low = omega arith; not_empty = below; below_high = omega arith; from_in_steps = ls; to_in_steps = place }, AreApart-lower (end_of block) (suc block.at) high (gaps (end_of block) high blocks) (omega arith) later))
    (λ _. AreApart-lower (end_of block) low high (gaps (end_of block) high blocks) (omega arith) later)

-- ---- bytes are free in the gaps exactly if they are within bounds and apart from all blocks

and-both : (s t : Bool) → s ≡ true → t ≡ true → s && t ≡ true
and-both true t h k = k
and-both false t h k = cc

pub and-left : (s t : Bool) → s && t ≡ true → s ≡ true
and-left true t h = refl
and-left false t h = cc

pub and-right : (s t : Bool) → s && t ≡ true → t ≡ true
and-right true t h = h
and-right false t h = cc

or-left : (s t : Bool) → s ≡ true → s || t ≡ true
or-left true t h = refl
or-left false t h = cc

or-right : (s t : Bool) → t ≡ true → s || t ≡ true
or-right true t h = refl
or-right false t h = h

or-both : (s t : Bool) → s || t ≡ true → (s ≡ true) ⊎ (t ≡ true)
or-both true t h = inl refl
or-both false t h = inr h

pub apart-sides : (at size : ℕ) (block : Block) → is_apart at size (span_of block) ≡ true → (at + size ≤ block.at) ⊎ (end_of block ≤ at)
apart-sides at size block h =
    elim (or-both (nat_le (at + size) block.at) (nat_le (block.at + rounded_size block.size) at) h) [
      | inl below ↦ inl (grind (arith, nat_tests))
      | inr above ↦ inr (grind (arith, nat_tests))
    ]

apart-below : (at size : ℕ) (block : Block) → at + size ≤ block.at → is_apart at size (span_of block) ≡ true
apart-below at size block h = or-left (nat_le (at + size) block.at) (nat_le (block.at + rounded_size block.size) at) (grind (arith, nat_tests))

apart-above : (at size : ℕ) (block : Block) → end_of block ≤ at → is_apart at size (span_of block) ≡ true
apart-above at size block h = or-right (nat_le (at + size) block.at) (nat_le (block.at + rounded_size block.size) at) (grind (arith, nat_tests))

-- what ends below all blocks is apart from them
all-below : (at size low high : ℕ) (blocks : List Block) → at + size ≤ low → AreInOrder low high blocks → list_all (is_apart at size) (map span_of blocks) ≡ true
all-below at size low high [] below h = refl
all-below at size low high (block ∷ blocks) below h =
    let first = h.0 in
    and-both (is_apart at size (span_of block)) (list_all (is_apart at size) (map span_of blocks))
    (apart-below at size block (omega arith))
    (all-below at size (end_of block) high blocks (omega arith) h.2)

pub record FreeFacts (at size low high : ℕ) (blocks : List Block) : Type 0 where
  pub above : low ≤ at
  pub below : at + size ≤ high
  pub apart : list_all (is_apart at size) (map span_of blocks) ≡ true

IsFree-range_before : (at size from to : ℕ) (ranges : List FreeRange) → IsFree at size (range_before from to ranges) → ((from ≤ at) × (at + size ≤ to)) ⊎ IsFree at size ranges
IsFree-range_before at size from to ranges =
    range_before-both from to ranges (λ (l : List FreeRange). IsFree at size l → ((from ≤ at) × (at + size ≤ to)) ⊎ IsFree at size ranges)
    (λ _ h. h) (λ _ h. inr h)

pub gaps-free : (at size low high : ℕ) (blocks : List Block) → AreInOrder low high blocks → IsFree at size (gaps low high blocks) → FreeFacts at size low high blocks
gaps-free at size low high [] h free = elim (IsFree-range_before at size low high [] free) [
  | inl in_ ↦ record { above = in_.0; below = in_.1; apart = refl }
  | inr none_ ↦ absurd none_
]
gaps-free at size low high (block ∷ blocks) h free =
    let first = h.0 in
    let bound = AreInOrder-bounds (end_of block) high blocks h.2 in
    elim (IsFree-range_before at size low block.at (gaps (end_of block) high blocks) free) [
      | inl in_ ↦
          let before = in_.1 in
          record {
            above = in_.0;
            below = omega arith;
            apart = and-both (is_apart at size (span_of block)) (list_all (is_apart at size) (map span_of blocks))
                (apart-below at size block before)
                (all-below at size (end_of block) high blocks (omega arith) h.2);
          }
      | inr later ↦
          let facts = gaps-free at size (end_of block) high blocks h.2 later in
          let above_ = facts.above in
          record {
            above = omega arith;
            below = facts.below;
            apart = and-both (is_apart at size (span_of block)) (list_all (is_apart at size) (map span_of blocks))
                (apart-above at size block above_) facts.apart;
          }
    ]

free-range_before : (at size from to : ℕ) (ranges : List FreeRange) → 0 < size → from ≤ at → at + size ≤ to → IsFree at size (range_before from to ranges)
free-range_before at size from to ranges some_ above below =
    range_before-both from to ranges (λ (l : List FreeRange). IsFree at size l) (λ _. inl (above, below)) (λ none_. absurd (omega arith))

free-later : (at size from to : ℕ) (ranges : List FreeRange) → IsFree at size ranges → IsFree at size (range_before from to ranges)
free-later at size from to ranges free =
    range_before-both from to ranges (λ (l : List FreeRange). IsFree at size l) (λ _. inr free) (λ _. free)

pub free-gaps : (at size low high : ℕ) (blocks : List Block) → 0 < size → FreeFacts at size low high blocks → IsFree at size (gaps low high blocks)
free-gaps at size low high [] some_ facts = free-range_before at size low high [] some_ facts.above facts.below
free-gaps at size low high (block ∷ blocks) some_ facts =
    let first = and-left (is_apart at size (span_of block)) (list_all (is_apart at size) (map span_of blocks)) facts.apart in
    let rest = and-right (is_apart at size (span_of block)) (list_all (is_apart at size) (map span_of blocks)) facts.apart in
    elim (apart-sides at size block first) [
      | inl before ↦ free-range_before at size low block.at (gaps (end_of block) high blocks) some_ facts.above before
      | inr after ↦
          free-later at size low block.at (gaps (end_of block) high blocks)
          (free-gaps at size (end_of block) high blocks some_ (record { above = after; below = facts.below; apart = rest }))
    ]

-- ---- the lowest place among the gaps is the least place

place-free : (at size low high : ℕ) (blocks : List Block) → 0 < size → IsPlace (map span_of blocks) size low high at → IsFree at size (gaps low high blocks)
place-free at size low high blocks some_ place =
    let within = and-left (nat_le (at + size) high) (list_all (is_apart at size) (map span_of blocks)) place.fits in
    free-gaps at size low high blocks some_ (record {
      above = place.low;
      below = grind (arith, nat_tests);
      apart = and-right (nat_le (at + size) high) (list_all (is_apart at size) (map span_of blocks)) place.fits;
    })

free-place : (at size low high : ℕ) (blocks : List Block) → AreInOrder low high blocks → (at - low) % 16 ≡ 0 → IsFree at size (gaps low high blocks) → IsPlace (map span_of blocks) size low high at
free-place at size low high blocks h steps free =
    let facts = gaps-free at size low high blocks h free in
    let below = facts.below in
    record {
      low = facts.above;
      in_steps = steps;
      fits = and-both (nat_le (at + size) high) (list_all (is_apart at size) (map span_of blocks)) (grind (arith, nat_tests)) facts.apart;
    }

place_for-steps : (size at low high : ℕ) (ranges : List FreeRange) → AreApart low high ranges → place_for size ranges ≡ Some at → at % 16 ≡ 0
place_for-steps size at low high [] a found = absurd (cc)
place_for-steps size at low high (range ∷ rest) a found = elim (seen (fits size range)) [
  | inl yes_ ↦
      let here : Some range.from ≡ Some at = sym (cond-true (fits size range) (Some range.from) (place_for size rest) yes_) ∙ found in
      let same : range.from ≡ at = cc in
      subst (λ (n : ℕ). n % 16 ≡ 0) same a.0.from_in_steps
  | inr no_ ↦ place_for-steps size at (suc range.to) high rest a.1 (sym (cond-false (fits size range) (Some range.from) (place_for size rest) no_) ∙ found)
]

pub record PlaceFacts (at size low high : ℕ) (blocks : List Block) : Type 0 where
  pub steps : at % 16 ≡ 0
  pub above : low ≤ at
  pub below : at + size ≤ high
  pub apart : list_all (is_apart at size) (map span_of blocks) ≡ true

-- where a place is found
pub place-facts : (at size low high : ℕ) (blocks : List Block) → low % 16 ≡ 0 → high % 16 ≡ 0 → AreInOrder low high blocks → place_for size (gaps low high blocks) ≡ Some at → PlaceFacts at size low high blocks
place-facts at size low high blocks ls hs h found =
    let facts = gaps-free at size low high blocks h (IsFree-place_for size at (gaps low high blocks) found) in
    record {
      steps = place_for-steps size at low high (gaps low high blocks) (AreApart-gaps low high blocks ls hs h) found;
      above = facts.above;
      below = facts.below;
      apart = facts.apart;
    }

pub place_for-gaps : (size low high : ℕ) (blocks : List Block) → 16 ≤ size → low % 16 ≡ 0 → high % 16 ≡ 0 → AreInOrder low high blocks → place_for size (gaps low high blocks) ≡ least_fit (map span_of blocks) size low high
place_for-gaps size low high blocks large ls hs h =
    both (place_for size (gaps low high blocks)) (least_fit (map span_of blocks) size low high) refl refl
  where
    free_at : (b : ℕ) → least_fit (map span_of blocks) size low high ≡ Some b → IsFree b size (gaps low high blocks)
    free_at b least = place-free b size low high blocks (omega arith) (least_fit-some (map span_of blocks) size low high b large least).place

    place_at : (a : ℕ) → place_for size (gaps low high blocks) ≡ Some a → IsPlace (map span_of blocks) size low high a
    place_at a found =
        let facts = place-facts a size low high blocks ls hs h found in
        let steps = facts.steps in
        let above = facts.above in
        free-place a size low high blocks h (omega arith) (IsFree-place_for size a (gaps low high blocks) found)

    both : (p q : Option ℕ) → place_for size (gaps low high blocks) ≡ p → least_fit (map span_of blocks) size low high ≡ q → p ≡ q
    both None None found least = refl
    both None (Some b) found least = absurd (place_for-none size b (gaps low high blocks) found (free_at b least))
    both (Some a) None found least = absurd (least_fit-none (map span_of blocks) size low high large least a (place_at a found))
    both (Some a) (Some b) found least =
        let not_later : a ≤ b = place_for-least size a b low high (gaps low high blocks) (AreApart-gaps low high blocks ls hs h) found (free_at b least) in
        let not_before : b ≤ a = (least_fit-some (map span_of blocks) size low high b large least).least a (place_at a found) in
        let same : a ≡ b = omega arith in
        ap Some same

-- ---- a birth keeps the gaps

taken-front : (size from to : ℕ) (ranges : List FreeRange) → from + size ≤ to → taken size (record { from = from; to = to } ∷ ranges) ≡ range_before (from + size) to ranges
taken-front size from to ranges fit =
    cond-true (nat_le (from + size) to) (without_front size (record { from = from; to = to }) ++ ranges) (record { from = from; to = to } ∷ taken size ranges) (grind (arith, nat_tests))
    ∙ cond_both (nat_eq (from + size) to) [] (record { from = from + size; to = to } ∷ []) (λ (l : List FreeRange). l ++ ranges ≡ range_before (from + size) to ranges)
    (λ all_. let all__ : from + size ≡ to = grind (arith, nat_tests) in sym (range_before-none (from + size) to ranges (omega arith)))
    (λ part. let part_ : from + size ≢ to = grind (arith, nat_tests) in sym (range_before-some (from + size) to ranges (omega arith)))

taken-past : (size : ℕ) (range : FreeRange) (ranges : List FreeRange) → fits size range ≡ false → taken size (range ∷ ranges) ≡ range ∷ taken size ranges
taken-past size range ranges h = cond-false (fits size range) (without_front size range ++ ranges) (range ∷ taken size ranges) h

pub with_block-first : (block other : Block) (blocks : List Block) → block.at < other.at → with_block block (other ∷ blocks) ≡ block ∷ other ∷ blocks
unfolding with_block
with_block-first block other blocks h = cond-true (nat_lt block.at other.at) (block ∷ other ∷ blocks) (other ∷ with_block block blocks) (grind (arith, nat_tests))

pub with_block-later : (block other : Block) (blocks : List Block) → other.at ≤ block.at → with_block block (other ∷ blocks) ≡ other ∷ with_block block blocks
unfolding with_block
with_block-later block other blocks h = cond-false (nat_lt block.at other.at) (block ∷ other ∷ blocks) (other ∷ with_block block blocks) (grind (arith, nat_tests))

pub with_block-none : (block : Block) → with_block block [] ≡ block ∷ []
unfolding with_block
with_block-none block = refl

gaps-first : (block : Block) (low high : ℕ) (blocks : List Block) → low ≡ block.at → gaps low high (block ∷ blocks) ≡ gaps (low + rounded_size block.size) high blocks
gaps-first block low high blocks same =
    range_before-none low block.at (gaps (end_of block) high blocks) (omega arith)
    ∙ ap (λ (n : ℕ). gaps (n + rounded_size block.size) high blocks) (sym same)

place_for-here : (size at : ℕ) (range : FreeRange) (ranges : List FreeRange) → fits size range ≡ true → place_for size (range ∷ ranges) ≡ Some at → range.from ≡ at
place_for-here size at range ranges yes_ found =
    let here : Some range.from ≡ Some at = sym (cond-true (fits size range) (Some range.from) (place_for size ranges) yes_) ∙ found in
    cc

place_for-past : (size at : ℕ) (range : FreeRange) (ranges : List FreeRange) → fits size range ≡ false → place_for size (range ∷ ranges) ≡ Some at → place_for size ranges ≡ Some at
place_for-past size at range ranges no_ found = sym (cond-false (fits size range) (Some range.from) (place_for size ranges) no_) ∙ found

taken-here : (block : Block) (low to high : ℕ) (blocks : List Block) (ranges : List FreeRange) → gaps (low + rounded_size block.size) high blocks ≡ range_before (low + rounded_size block.size) to ranges → fits (rounded_size block.size) (record { from = low; to = to }) ≡ true → low ≡ block.at → taken (rounded_size block.size) (record { from = low; to = to } ∷ ranges) ≡ gaps low high (block ∷ blocks)
taken-here block low to high blocks ranges rest fit same =
    let fit_ : low + rounded_size block.size ≤ to = grind (arith, nat_tests) in
    taken-front (rounded_size block.size) low to ranges fit_ ∙ sym rest ∙ sym (gaps-first block low high blocks same)

taken-later : (block other : Block) (low high : ℕ) (blocks : List Block) → other.at ≤ block.at → taken (rounded_size block.size) (gaps (end_of other) high blocks) ≡ gaps (end_of other) high (with_block block blocks) → range_before low other.at (taken (rounded_size block.size) (gaps (end_of other) high blocks)) ≡ gaps low high (with_block block (other ∷ blocks))
taken-later block other low high blocks after later =
    ap (range_before low other.at) later ∙ ap (gaps low high) (sym (with_block-later block other blocks after))

pub taken-gaps : (block : Block) (low high : ℕ) (blocks : List Block) → AreInOrder low high blocks → place_for (rounded_size block.size) (gaps low high blocks) ≡ Some block.at → taken (rounded_size block.size) (gaps low high blocks) ≡ gaps low high (with_block block blocks)
taken-gaps block low high [] h found = elim (cases_lt low high) [
  | inl some_ ↦
      let whole = range_before-some low high [] some_ in
      let found_ : place_for (rounded_size block.size) (record { from = low; to = high } ∷ []) ≡ Some block.at = ap (place_for (rounded_size block.size)) (sym whole) ∙ found in
      elim (seen (fits (rounded_size block.size) (record { from = low; to = high }))) [
        | inl yes_ ↦
            let same : low ≡ block.at = place_for-here (rounded_size block.size) block.at (record { from = low; to = high }) [] yes_ found_ in
            ap (taken (rounded_size block.size)) whole
            ∙ taken-here block low high high [] [] refl yes_ same
            ∙ ap (gaps low high) (sym (with_block-none block))
        | inr no_ ↦ let none_ = place_for-past (rounded_size block.size) block.at (record { from = low; to = high }) [] no_ found_ in absurd (cc)
      ]
  | inr none_ ↦
      let found_ : place_for (rounded_size block.size) [] ≡ Some block.at = ap (place_for (rounded_size block.size)) (sym (range_before-none low high [] none_)) ∙ found in
      absurd (cc)
]
taken-gaps block low high (other ∷ blocks) h found =
    let least = rounded-least other.size in
    let rest = gaps (end_of other) high blocks in
    let range : FreeRange = record { from = low; to = other.at } in
    let size = rounded_size block.size in
    elim (cases_lt low other.at) [
      | inl some_ ↦
          let front = range_before-some low other.at (gaps (end_of other) high blocks) some_ in
          let found_ : place_for size (range ∷ rest) ≡ Some block.at = ap (place_for size) (sym front) ∙ found in
          elim (seen (fits size range)) [
            | inl yes_ ↦
                let same : low ≡ block.at = place_for-here size block.at range rest yes_ found_ in
                ap (taken size) front
                ∙ taken-here block low other.at high (other ∷ blocks) rest refl yes_ same
                ∙ ap (gaps low high) (sym (with_block-first block other blocks (omega arith)))
            | inr no_ ↦
                let place = place_for-past size block.at range rest no_ found_ in
                let above : end_of other ≤ block.at = (gaps-free block.at size (end_of other) high blocks h.2 (IsFree-place_for size block.at rest place)).above in
                ap (taken size) front
                ∙ taken-past size range rest no_
                ∙ sym (range_before-some low other.at (taken size rest) some_)
                ∙ taken-later block other low high blocks (omega arith) (taken-gaps block (end_of other) high blocks h.2 place)
          ]
      | inr none_ ↦
          let front = range_before-none low other.at (gaps (end_of other) high blocks) none_ in
          let place : place_for size rest ≡ Some block.at = ap (place_for size) (sym front) ∙ found in
          let above : end_of other ≤ block.at = (gaps-free block.at size (end_of other) high blocks h.2 (IsFree-place_for size block.at rest place)).above in
          ap (taken size) front
          ∙ sym (range_before-none low other.at (taken size rest) none_)
          ∙ taken-later block other low high blocks (omega arith) (taken-gaps block (end_of other) high blocks h.2 place)
    ]

pub AreInOrder-with_block : (block : Block) (low high : ℕ) (blocks : List Block) → AreInOrder low high blocks → PlaceFacts block.at (rounded_size block.size) low high blocks → AreInOrder low high (with_block block blocks)
AreInOrder-with_block block low high [] h facts = subst (AreInOrder low high) (sym (with_block-none block)) (facts.above, facts.steps, facts.below)
AreInOrder-with_block block low high (other ∷ blocks) h facts =
    let first = and-left (is_apart block.at (rounded_size block.size) (span_of other)) (list_all (is_apart block.at (rounded_size block.size)) (map span_of blocks)) facts.apart in
    let rest = and-right (is_apart block.at (rounded_size block.size) (span_of other)) (list_all (is_apart block.at (rounded_size block.size)) (map span_of blocks)) facts.apart in
    let least = rounded-least block.size in
    let other_least = rounded-least other.size in
    elim (apart-sides block.at (rounded_size block.size) other first) [
      | inl before ↦ subst (AreInOrder low high) (sym (with_block-first block other blocks (omega arith))) (facts.above, facts.steps, (before, h.1, h.2))
      | inr after ↦
          subst (AreInOrder low high) (sym (with_block-later block other blocks (omega arith)))
          (h.0, h.1, AreInOrder-with_block block (end_of other) high blocks h.2 (record { steps = facts.steps; above = after; below = facts.below; apart = rest }))
    ]

-- ---- a death keeps the gaps

pub AreInOrder-lower : (low lower high : ℕ) (blocks : List Block) → lower ≤ low → AreInOrder low high blocks → AreInOrder lower high blocks
AreInOrder-lower low lower high [] below h = omega arith
AreInOrder-lower low lower high (block ∷ blocks) below h = let first = h.0 in (omega arith, h.1, h.2)

pub AreInOrder-without : (at low high : ℕ) (blocks : List Block) → AreInOrder low high blocks → AreInOrder low high (without_block at blocks)
AreInOrder-without at low high [] h = h
AreInOrder-without at low high (block ∷ blocks) h =
    let first = h.0 in
    let later = AreInOrder-without at (end_of block) high blocks h.2 in
    cond_both (not (block.at == at)) (block ∷ without_block at blocks) (without_block at blocks) (AreInOrder low high)
    (λ _. (h.0, h.1, later)) (λ _. AreInOrder-lower (end_of block) low high (without_block at blocks) (omega arith) later)

pub without-past : (at : ℕ) (block : Block) (blocks : List Block) → block.at ≢ at → without_block at (block ∷ blocks) ≡ block ∷ without_block at blocks
without-past at block blocks other = cond-true (not (block.at == at)) (block ∷ without_block at blocks) (without_block at blocks) (grind (arith, nat_tests))

pub without-here : (at : ℕ) (block : Block) (blocks : List Block) → block.at ≡ at → without_block at (block ∷ blocks) ≡ without_block at blocks
without-here at block blocks same = cond-false (not (block.at == at)) (block ∷ without_block at blocks) (without_block at blocks) (grind (arith, nat_tests))

without-none : (at low high : ℕ) (blocks : List Block) → AreInOrder low high blocks → at < low → without_block at blocks ≡ blocks
without-none at low high [] h below = refl
without-none at low high (block ∷ blocks) h below =
    let first = h.0 in
    without-past at block blocks (omega arith) ∙ ap (λ (l : List Block). block ∷ l) (without-none at (end_of block) high blocks h.2 (omega arith))

joined-touching : (low at to : ℕ) (ranges : List FreeRange) → joined low at (record { from = at; to = to } ∷ ranges) ≡ record { from = low; to = to } ∷ ranges
joined-touching low at to ranges =
    cond-true (nat_eq at at) (record { from = low; to = to } ∷ ranges) (record { from = low; to = at } ∷ record { from = at; to = to } ∷ ranges) (grind (arith, nat_tests))

joined-apart : (low at above high : ℕ) (ranges : List FreeRange) → AreApart above high ranges → at < above → joined low at ranges ≡ record { from = low; to = at } ∷ ranges
joined-apart low at above high [] a below = refl
joined-apart low at above high (range ∷ ranges) a below =
    let over = a.0.above_low in
    cond-false (nat_eq range.from at) (record { from = low; to = range.to } ∷ ranges) (record { from = low; to = at } ∷ range ∷ ranges) (grind (arith, nat_tests))

joined-gaps : (low at high : ℕ) (blocks : List Block) → low < at → at % 16 ≡ 0 → high % 16 ≡ 0 → AreInOrder at high blocks → joined low at (gaps at high blocks) ≡ gaps low high blocks
joined-gaps low at high [] below steps hs h = elim (cases_lt at high) [
  | inl some_ ↦
      ap (joined low at) (range_before-some at high [] some_)
      ∙ joined-touching low at high []
      ∙ sym (range_before-some low high [] (omega arith))
  | inr none_ ↦
      let same : at ≡ high = omega arith in
      ap (joined low at) (range_before-none at high [] none_)
      ∙ ap (λ (n : ℕ). record { from = low; to = n } ∷ []) same
      ∙ sym (range_before-some low high [] (omega arith))
]
joined-gaps low at high (block ∷ blocks) below steps hs h =
    let first = h.0 in
    let place = h.1 in
    let least = rounded-least block.size in
    let whole = rounded-steps block.size in
    let rest = gaps (end_of block) high blocks in
    elim (cases_lt at block.at) [
      | inl some_ ↦
          ap (joined low at) (range_before-some at block.at rest some_)
          ∙ joined-touching low at block.at rest
          ∙ sym (range_before-some low block.at rest (omega arith))
      | inr none_ ↦
          let same : at ≡ block.at = omega arith in
          ap (joined low at) (range_before-none at block.at rest none_)
          ∙ joined-apart low at (end_of block) high rest (AreApart-gaps (end_of block) high blocks (omega arith) hs h.2) (omega arith)
          ∙ ap (λ (n : ℕ). record { from = low; to = n } ∷ rest) same
          ∙ sym (range_before-some low block.at rest (omega arith))
    ]

given-past : (at size : ℕ) (range : FreeRange) (ranges : List FreeRange) → range.to < at → given at size (range ∷ ranges) ≡ range ∷ given at size ranges
given-past at size range ranges h =
    cond-true (nat_lt range.to at) (range ∷ given at size ranges) (cond (nat_eq range.to at) (joined range.from (at + size) ranges) (joined at (at + size) (range ∷ ranges))) (grind (arith, nat_tests))

given-touching : (at size : ℕ) (range : FreeRange) (ranges : List FreeRange) → range.to ≡ at → given at size (range ∷ ranges) ≡ joined range.from (at + size) ranges
given-touching at size range ranges h =
    cond-false (nat_lt range.to at) (range ∷ given at size ranges) (cond (nat_eq range.to at) (joined range.from (at + size) ranges) (joined at (at + size) (range ∷ ranges))) (grind (arith, nat_tests))
    ∙ cond-true (nat_eq range.to at) (joined range.from (at + size) ranges) (joined at (at + size) (range ∷ ranges)) (grind (arith, nat_tests))

given-below : (at size above high : ℕ) (ranges : List FreeRange) → AreApart above high ranges → at < above → given at size ranges ≡ joined at (at + size) ranges
given-below at size above high [] a below = refl
given-below at size above high (range ∷ ranges) a below =
    let over = a.0.above_low in
    let some_ = a.0.not_empty in
    cond-false (nat_lt range.to at) (range ∷ given at size ranges) (cond (nat_eq range.to at) (joined range.from (at + size) ranges) (joined at (at + size) (range ∷ ranges))) (grind (arith, nat_tests))
    ∙ cond-false (nat_eq range.to at) (joined range.from (at + size) ranges) (joined at (at + size) (range ∷ ranges)) (grind (arith, nat_tests))

given-first : (block : Block) (low high : ℕ) (blocks : List Block) → high % 16 ≡ 0 → AreInOrder low high (block ∷ blocks) → given block.at (rounded_size block.size) (gaps low high (block ∷ blocks)) ≡ gaps low high blocks
given-first block low high blocks hs h =
    let first = h.0 in
    let place = h.1 in
    let least = rounded-least block.size in
    let whole = rounded-steps block.size in
    let rest = gaps (end_of block) high blocks in
    let size = rounded_size block.size in
    let steps : end_of block % 16 ≡ 0 = omega arith in
    elim (cases_lt low block.at) [
      | inl some_ ↦
          ap (given block.at size) (range_before-some low block.at rest some_)
          ∙ given-touching block.at size (record { from = low; to = block.at }) rest refl
          ∙ joined-gaps low (end_of block) high blocks (omega arith) steps hs h.2
      | inr none_ ↦
          let same : block.at ≡ low = omega arith in
          ap (given block.at size) (range_before-none low block.at rest none_)
          ∙ given-below block.at size (end_of block) high rest (AreApart-gaps (end_of block) high blocks steps hs h.2) (omega arith)
          ∙ joined-gaps block.at (end_of block) high blocks (omega arith) steps hs h.2
          ∙ ap (λ (n : ℕ). gaps n high blocks) same
    ]

-- ---- the block that begins at an address

find-here : (at : ℕ) (block other : Block) (blocks : List Block) → other.at ≡ at → find (λ (b : Block). b.at == at) (other ∷ blocks) ≡ Some block → other ≡ block
find-here at block other blocks same found =
    let here : Some other ≡ Some block = sym (cond-true (other.at == at) (Some other) (find (λ (b : Block). b.at == at) blocks) (grind (arith, nat_tests))) ∙ found in
    cc

find-past : (at : ℕ) (block other : Block) (blocks : List Block) → other.at ≢ at → find (λ (b : Block). b.at == at) (other ∷ blocks) ≡ Some block → find (λ (b : Block). b.at == at) blocks ≡ Some block
find-past at block other blocks apart found =
    sym (cond-false (other.at == at) (Some other) (find (λ (b : Block). b.at == at) blocks) (grind (arith, nat_tests))) ∙ found

pub record LivingFacts (at low high : ℕ) (block : Block) : Type 0 where
  pub same : block.at ≡ at
  pub above : low ≤ at
  pub steps : at % 16 ≡ 0
  pub below : at + rounded_size block.size ≤ high

pub living-facts : (at low high : ℕ) (block : Block) (blocks : List Block) → AreInOrder low high blocks → find (λ (b : Block). b.at == at) blocks ≡ Some block → LivingFacts at low high block
living-facts at low high block [] h found = absurd (cc)
living-facts at low high block (other ∷ blocks) h found =
    let first = h.0 in
    let place = h.1 in
    let least = rounded-least other.size in
    let bound = AreInOrder-bounds (end_of other) high blocks h.2 in
    elim (seen (other.at == at)) [
      | inl yes_ ↦
          let here : other.at ≡ at = grind (arith, nat_tests) in
          let same = find-here at block other blocks here found in
          subst (LivingFacts at low high) same (record { same = here; above = omega arith; steps = omega arith; below = omega arith })
      | inr no_ ↦
          let apart : other.at ≢ at = grind (arith, nat_tests) in
          let later = living-facts at (end_of other) high block blocks h.2 (find-past at block other blocks apart found) in
          let above_ = later.above in
          record { same = later.same; above = omega arith; steps = later.steps; below = later.below }
    ]

pub given-gaps : (block : Block) (low high : ℕ) (blocks : List Block) → high % 16 ≡ 0 → AreInOrder low high blocks → find (λ (b : Block). b.at == block.at) blocks ≡ Some block → given block.at (rounded_size block.size) (gaps low high blocks) ≡ gaps low high (without_block block.at blocks)
given-gaps block low high [] hs h found = absurd (cc)
given-gaps block low high (other ∷ blocks) hs h found =
    let size = rounded_size block.size in
    let rest = gaps (end_of other) high blocks in
    let least = rounded-least other.size in
    elim (seen (other.at == block.at)) [
      | inl yes_ ↦
          let here : other.at ≡ block.at = grind (arith, nat_tests) in
          let same = find-here block.at block other blocks here found in
          let gone : without_block block.at (other ∷ blocks) ≡ blocks =
          without-here block.at other blocks here ∙ without-none block.at (end_of other) high blocks h.2 (omega arith) in
          subst (λ (b : Block). given b.at (rounded_size b.size) (gaps low high (other ∷ blocks)) ≡ gaps low high blocks) same (given-first other low high blocks hs h)
          ∙ ap (gaps low high) (sym gone)
      | inr no_ ↦
          let apart : other.at ≢ block.at = grind (arith, nat_tests) in
          let there = find-past block.at block other blocks apart found in
          let above = (living-facts block.at (end_of other) high block blocks h.2 there).above in
          let later = given-gaps block (end_of other) high blocks hs h.2 there in
          let through : given block.at size (range_before low other.at rest) ≡ range_before low other.at (given block.at size rest) =
          elim (cases_lt low other.at) [
            | inl some_ ↦
                ap (given block.at size) (range_before-some low other.at rest some_)
                ∙ given-past block.at size (record { from = low; to = other.at }) rest (omega arith)
                ∙ sym (range_before-some low other.at (given block.at size rest) some_)
            | inr none_ ↦
                ap (given block.at size) (range_before-none low other.at rest none_)
                ∙ sym (range_before-none low other.at (given block.at size rest) none_)
          ] in
          through ∙ ap (range_before low other.at) later ∙ ap (gaps low high) (sym (without-past block.at other blocks apart))
    ]

-- a living block isn't free
not-free-below : (at size low high : ℕ) (ranges : List FreeRange) → at + size ≤ low → AreApart low high ranges → IsNotFree at size ranges
not-free-below at size low high [] below a = tt
not-free-below at size low high (range ∷ rest) below a =
    let over = a.0.above_low in
    let most = a.0.not_empty in
    (inl (omega arith), not-free-below at size (suc range.to) high rest (omega arith) a.1)

not-free-before : (at size from to : ℕ) (ranges : List FreeRange) → to ≤ at → IsNotFree at size ranges → IsNotFree at size (range_before from to ranges)
not-free-before at size from to ranges below rest =
    range_before-both from to ranges (λ (l : List FreeRange). IsNotFree at size l) (λ _. (inr below, rest)) (λ _. rest)

pub living-not-free : (block : Block) (low high : ℕ) (blocks : List Block) → high % 16 ≡ 0 → AreInOrder low high blocks → find (λ (b : Block). b.at == block.at) blocks ≡ Some block → IsNotFree block.at (rounded_size block.size) (gaps low high blocks)
living-not-free block low high [] hs h found = absurd (cc)
living-not-free block low high (other ∷ blocks) hs h found =
    let place = h.1 in
    let least = rounded-least other.size in
    let whole = rounded-steps other.size in
    let rest = gaps (end_of other) high blocks in
    elim (seen (other.at == block.at)) [
      | inl yes_ ↦
          let here : other.at ≡ block.at = grind (arith, nat_tests) in
          let same = find-here block.at block other blocks here found in
          let size_ : rounded_size other.size ≡ rounded_size block.size = ap (λ (b : Block). rounded_size b.size) same in
          not-free-before block.at (rounded_size block.size) low other.at rest (omega arith)
          (not-free-below block.at (rounded_size block.size) (end_of other) high rest (omega arith) (AreApart-gaps (end_of other) high blocks (omega arith) hs h.2))
      | inr no_ ↦
          let apart : other.at ≢ block.at = grind (arith, nat_tests) in
          let there = find-past block.at block other blocks apart found in
          let above = (living-facts block.at (end_of other) high block blocks h.2 there).above in
          not-free-before block.at (rounded_size block.size) low other.at rest (omega arith)
          (living-not-free block (end_of other) high blocks hs h.2 there)
    ]
