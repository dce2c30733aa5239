-- The heap's tables at a birth and at a death, and the definitions' steps on the state that they make.
use Rattle.std.proofs.Common.{◌≡◌, ◌≢◌, ℕ, zero, suc, ◌+◌, ◌-◌, ◌<◌, ◌≤◌, Bool, true, false, List, [], ◌∷◌, ◌++◌, length, map, Option, Some, None, refl, sym, ◌∙◌, ap, subst, inl, inr, arith}
use Rattle.std.specs.Prelude.{◌==◌, ◌⊎◌, if◌then◌else◌, slice_get, slice_index_or, slice_set, take, unwrap_or, Result, Ok, Err, is_ok}
use Rattle.std.specs.List.{list_all}
use Rattle.std.proofs.lemmas.Bool.{cases_lt, cond-false}
use Rattle.std.proofs.lemmas.Bool.Decides.{nat_tests}
use Rattle.free_ring.specs.Kept.{Kept}
use Rattle.hw_base.specs.AddressMap.{rounded_size}
use Rattle.hw_base.specs.TaggedAddress.{address_of}
use Rattle.hw_base.specs.declared.endings.Full.{Full}
use Rattle.hw_holes.specs.declared.ranges.FreeRange.{FreeRange}
use Rattle.hw_holes.specs.FreeRanges.{AreApart, HolesState, IsNotFree, fits, free_bytes, given, place_for, taken, without_front}
use Rattle.hw_holes.proofs.LawLemmas.{free_bytes-given, free_bytes-taken}
use Rattle.hw_tags.specs.LeastPlace.{is_apart}
use Rattle.hw_tags.specs.Tag.{heap_tag_of, free_tag_of}
use Rattle.tbi_memory.specs.AddressSpace.{AddressSpace}
use Rattle.tbi_memory.specs.ObjectMemory.{tag_plain, with_fresh_object}
use Rattle.tag_alloc.specs.declared.blocks.Block.{Block}
use Rattle.tag_alloc.specs.declared.blocks.Freed.{Freed}
use Rattle.tag_alloc.specs.declared.blocks.FreeMismatch.{FreeMismatch}
use Rattle.tag_alloc.specs.HeapBlocks.{HeapState, block_number, free_mismatch, freed_block, heap_full, place_of_new, span_of, with_block, without_block}
use Rattle.tag_alloc.specs.HeapSteps.{AfterBirth, AfterDeath, after_birth, after_death, allocated, new_block}
use Rattle.tag_alloc.specs.HeapTables.{BlocksState, gaps}
use Rattle.tag_alloc.specs.HeapView.{AreTables, HeapView, KeepAtMost, kept_of, ok_unless, view_of}
use Rattle.tag_alloc.proofs.GapLemmas.{AreApart-gaps, AreInOrder-with_block, AreInOrder-without, LivingFacts, PlaceFacts, and-left, and-right, apart-sides, given-gaps, living-facts, living-not-free, place-facts, place_for-gaps, rounded-least, taken-gaps}
use Rattle.tag_alloc.proofs.TableLemmas.{found_at, found_at-past}

-- ---- what tasks remember

pub KeepAtMost-pushed : {E : Type 0} (r : Result (Unit {0}) E) (n : ℕ) (ring : Kept Freed) (old new : List (Kept Freed)) → new ≡ (if is_ok r then old ++ ring ∷ [] else old) → ring.size ≡ n → KeepAtMost n old → KeepAtMost n new
KeepAtMost-pushed (Ok _) n ring old new e same keep = subst (KeepAtMost n) (sym e) (more old keep)
  where
    more : (rings : List (Kept Freed)) → KeepAtMost n rings → KeepAtMost n (rings ++ ring ∷ [])
    more [] k = (same, tt)
    more (first ∷ rings) k = (k.0, more rings k.1)
KeepAtMost-pushed (Err _) n ring old new e same keep = subst (KeepAtMost n) (sym e) keep

pub KeepAtMost-set : (n task : ℕ) (rings : List (Kept Freed)) (old new : Kept Freed) → task < length rings → old ≡ slice_index_or rings task old → new.size ≡ old.size → KeepAtMost n rings → KeepAtMost n (slice_set rings task new)
KeepAtMost-set n task [] old new within read same keep = absurd (omega arith)
KeepAtMost-set n zero (ring ∷ rings) old new within read same keep = (same ∙ ap (λ (r : Kept Freed). r.size) read ∙ keep.0, keep.1)
KeepAtMost-set n (suc task) (ring ∷ rings) old new within read same keep = (keep.0, KeepAtMost-set n task rings old new (omega arith) read same keep.1)

pub kept_of-set : (n task : ℕ) (freed : Freed) (rings : List (Kept Freed)) (old new : Kept Freed) → task < length rings → old ≡ slice_index_or rings task old → new.kept ≡ take old.size (freed ∷ old.kept) → KeepAtMost n rings → kept_of (slice_set rings task new) ≡ slice_set (kept_of rings) task (take n (freed ∷ unwrap_or (slice_get (kept_of rings) task) []))
kept_of-set n task freed [] old new within read pushed keep = absurd (omega arith)
kept_of-set n zero freed (ring ∷ rings) old new within read pushed keep =
    let here : new.kept ≡ take ring.size (freed ∷ ring.kept) = pushed ∙ ap (λ (r : Kept Freed). take r.size (freed ∷ r.kept)) read in
    ap (λ (l : List Freed). l ∷ kept_of rings) (here ∙ ap (λ (m : ℕ). take m (freed ∷ ring.kept)) keep.0)
kept_of-set n (suc task) freed (ring ∷ rings) old new within read pushed keep =
    ap (λ (l : List (List Freed)). ring.kept ∷ l) (kept_of-set n task freed rings old new (omega arith) read pushed keep.1)

-- ---- sizes

pub rounded-above : (size : ℕ) → size ≤ rounded_size size
rounded-above zero = omega arith
rounded-above (suc n) = omega arith

-- no range has more bytes than the heap
pub place_for-large : (size low high : ℕ) (ranges : List FreeRange) → AreApart low high ranges → high < size → place_for size ranges ≡ None
place_for-large size low high [] a large = refl
place_for-large size low high (range ∷ rest) a large =
    let below = a.0.below_high in
    cond-false (fits size range) (Some range.from) (place_for size rest) (grind (arith, nat_tests))
    ∙ place_for-large size (suc range.to) high rest a.1 large

pub taken-large : (size low high : ℕ) (ranges : List FreeRange) → AreApart low high ranges → high < size → ranges ≡ taken size ranges
taken-large size low high [] a large = refl
taken-large size low high (range ∷ rest) a large =
    let below = a.0.below_high in
    sym (cond-false (fits size range) (without_front size range ++ rest) (range ∷ taken size rest) (grind (arith, nat_tests))
    ∙ ap (λ (l : List FreeRange). range ∷ l) (sym (taken-large size (suc range.to) high rest a.1 large)))

free_bytes-within : (low high : ℕ) (ranges : List FreeRange) → AreApart low high ranges → low ≤ high → free_bytes ranges ≤ high - low
free_bytes-within low high [] a bound = omega arith
free_bytes-within low high (range ∷ rest) a bound =
    let above = a.0.above_low in
    let below = a.0.below_high in
    let some_ = a.0.not_empty in
    elim (below-or (suc range.to) high) [
      | inl under ↦ let later = free_bytes-within (suc range.to) high rest a.1 under in omega arith
      | inr over ↦ let none_ = nothing-above (suc range.to) high rest a.1 over in omega arith
    ]
  where
    below-or : (m n : ℕ) → (m ≤ n) ⊎ (n < m)
    below-or m n = elim (cases_lt n m) [ inl h ↦ inr h | inr h ↦ inl h ]

    nothing-above : (l h : ℕ) (ranges : List FreeRange) → AreApart l h ranges → h < l → free_bytes ranges ≡ 0
    nothing-above l h [] b over = refl
    nothing-above l h (next ∷ rest) b over =
        let above = b.0.above_low in
        let below = b.0.below_high in
        let some_ = b.0.not_empty in
        absurd (omega arith)

-- ---- births

pub birth-facts : (table : BlocksState) (holes : HolesState) (living_size size at : ℕ) (place : Option ℕ) → AreTables table holes living_size → place ≡ place_for (rounded_size size) holes.ranges → place ≡ Some at → PlaceFacts at (rounded_size size) table.low table.high table.blocks
birth-facts table holes living_size size at place t e found =
    place-facts at (rounded_size size) table.low table.high table.blocks t.low_in_steps t.high_in_steps t.order
    (ap (place_for (rounded_size size)) (sym t.ranges) ∙ sym e ∙ found)

pub apart-unused : (at size : ℕ) (blocks : List Block) → 16 ≤ size → list_all (is_apart at size) (map span_of blocks) ≡ true → found_at at blocks ≡ None
apart-unused at size [] large h = refl
apart-unused at size (block ∷ blocks) large h =
    let first = and-left (is_apart at size (span_of block)) (list_all (is_apart at size) (map span_of blocks)) h in
    let rest = and-right (is_apart at size (span_of block)) (list_all (is_apart at size) (map span_of blocks)) h in
    let least = rounded-least block.size in
    let other : block.at ≢ at = λ e. elim (apart-sides at size block first) [
      | inl before ↦ omega (arith, before, e, large)
      | inr after ↦ omega (arith, after, e, least)
    ] in
    found_at-past at block blocks other ∙ apart-unused at size blocks large rest

pub born-tables : (table after : BlocksState) (holes left : HolesState) (living_size r : ℕ) (block : Block) (place : Option ℕ) → AreTables table holes living_size → place ≡ place_for (rounded_size block.size) holes.ranges → place ≡ Some block.at → after ≡ record table { blocks = with_block block table.blocks } → left.ranges ≡ taken (rounded_size block.size) holes.ranges → left.low ≡ holes.low → left.high ≡ holes.high → r ≡ rounded_size block.size → AreTables after left (living_size + r)
born-tables table after holes left living_size r block place t e found put ranges low high size =
    let here : place_for (rounded_size block.size) holes.ranges ≡ Some block.at = sym e ∙ found in
    let there : place_for (rounded_size block.size) (gaps table.low table.high table.blocks) ≡ Some block.at = ap (place_for (rounded_size block.size)) (sym t.ranges) ∙ here in
    let apart : AreApart table.low table.high holes.ranges = subst (AreApart table.low table.high) (sym t.ranges) (AreApart-gaps table.low table.high table.blocks t.low_in_steps t.high_in_steps t.order) in
    let free = free_bytes-taken (rounded_size block.size) block.at table.low table.high holes.ranges apart here in
    let left_ = ap free_bytes ranges in
    let sum = t.size in
    let all_ : living_size + r + free_bytes left.ranges ≡ table.high - table.low = omega (arith, free, left_, sum, size) in
    subst (λ (s : BlocksState). AreTables s left (living_size + r)) (sym put)
    (record {
      low_in_steps = t.low_in_steps;
      high_in_steps = t.high_in_steps;
      high = t.high;
      order = AreInOrder-with_block block table.low table.high table.blocks t.order (birth-facts table holes living_size block.size block.at place t e found);
      ranges = ranges ∙ ap (taken (rounded_size block.size)) t.ranges ∙ taken-gaps block table.low table.high table.blocks t.order there;
      holes_low = low ∙ t.holes_low;
      holes_high = high ∙ t.holes_high;
      size = all_;
    })

place_of_new-found : (table : BlocksState) (holes : HolesState) (living_size size : ℕ) (rings : List (Kept Freed)) (ring : ℕ) (place : Option ℕ) → AreTables table holes living_size → place ≡ place_for (rounded_size size) holes.ranges → place_of_new (view_of table holes living_size rings ring).state size ≡ place
place_of_new-found table holes living_size size rings ring place t e =
    sym (e ∙ ap (place_for (rounded_size size)) t.ranges
    ∙ place_for-gaps (rounded_size size) table.low table.high table.blocks (rounded-least size) t.low_in_steps t.high_in_steps t.order)

abbrev ok_birth : AfterBirth → Result AfterBirth Full
ok_birth after = Ok after

abbrev err_birth : Full → Result AfterBirth Full
err_birth full = Err full

-- a block at the place that was found, if one was
abbrev placed : Option ℕ → HeapState → AddressSpace → (word size birth born : ℕ) → Result AfterBirth Full
placed o heap space word size birth born =
    elim o [
      | None ↦ Err (heap_full heap size)
      | Some place ↦ Ok (after_birth heap space (new_block word place size birth born))
    ]

allocated-placed : (heap : HeapState) (space : AddressSpace) (word size birth born : ℕ) (o : Option ℕ) → place_of_new heap size ≡ o → allocated heap space word size birth born ≡ placed o heap space word size birth born
unfolding allocated
allocated-placed heap space word size birth born o e = ap (λ (p : Option ℕ). placed p heap space word size birth born) e

pub full-again : (e f : Full) → ◌≡◌ {A = Result ℕ Full} (Err e) (Err f) → ◌≡◌ {A = Result AfterBirth Full} (Err e) (Err f)
full-again e f h = let same : e ≡ f = cc in ap err_birth same

pub born-full : (table : BlocksState) (holes : HolesState) (living_size size : ℕ) (rings : List (Kept Freed)) (ring : ℕ) (place : Option ℕ) (now : HeapView) (space : AddressSpace) (word birth born : ℕ) → AreTables table holes living_size → view_of table holes living_size rings ring ≡ now → place ≡ place_for (rounded_size size) holes.ranges → place ≡ None → allocated now.state space word size birth born ≡ Err (heap_full (view_of table holes living_size rings ring).state size)
born-full table holes living_size size rings ring place now space word birth born t view e none_ =
    ap (λ (h : HeapView). allocated h.state space word size birth born) (sym view)
    ∙ allocated-placed (view_of table holes living_size rings ring).state space word size birth born None (place_of_new-found table holes living_size size rings ring place t e ∙ none_)

-- the state after a birth, by the tables
abbrev pub born_of : (table : BlocksState) (living_size : ℕ) (rings : List (Kept Freed)) (ring : ℕ) (space : AddressSpace) (number : ℕ) → AfterBirth
born_of table living_size rings ring space number =
    record {
      heap = record { from = table.low; end = table.high; living = table.blocks; living_size = living_size; freed = kept_of rings; ring = ring };
      space = space;
      number = number;
    }

born-here : (table : BlocksState) (holes : HolesState) (living_size : ℕ) (rings : List (Kept Freed)) (ring : ℕ) (space : AddressSpace) (block : Block) → after_birth (view_of table holes living_size rings ring).state space block ≡ born_of (record table { blocks = with_block block table.blocks }) (living_size + rounded_size block.size) rings ring (with_fresh_object space block.at block.size block.tag) (block_number block)
unfolding after_birth
born-here table holes living_size rings ring space block = refl

pub born-state : (table after : BlocksState) (holes : HolesState) (living_size r : ℕ) (rings : List (Kept Freed)) (ring : ℕ) (place : Option ℕ) (now : HeapView) (space fresh : AddressSpace) (word number : ℕ) (block : Block) → AreTables table holes living_size → view_of table holes living_size rings ring ≡ now → place ≡ place_for (rounded_size block.size) holes.ranges → place ≡ Some block.at → block.tag ≡ heap_tag_of word → after ≡ record table { blocks = with_block block table.blocks } → r ≡ rounded_size block.size → fresh ≡ with_fresh_object space block.at block.size block.tag → number ≡ block_number block → allocated now.state space word block.size block.birth block.born ≡ Ok (born_of after (living_size + r) rings ring fresh number)
born-state table after holes living_size r rings ring place now space fresh word number block t view e found tag put size memory address =
    let state = (view_of table holes living_size rings ring).state in
    ap (λ (h : HeapView). allocated h.state space word block.size block.birth block.born) (sym view)
    ∙ allocated-placed state space word block.size block.birth block.born (Some block.at) (place_of_new-found table holes living_size block.size rings ring place t e ∙ found)
    ∙ ap (λ (n : ℕ). ok_birth (after_birth state space (record { at = block.at; size = block.size; tag = n; birth = block.birth; born = block.born }))) (sym tag)
    ∙ ap (λ (b : AfterBirth). ok_birth b) (born-here table holes living_size rings ring space block)
    ∙ ap (λ (s : BlocksState). ok_birth (born_of s (living_size + rounded_size block.size) rings ring (with_fresh_object space block.at block.size block.tag) (block_number block))) (sym put)
    ∙ ap (λ (n : ℕ). ok_birth (born_of after (living_size + n) rings ring (with_fresh_object space block.at block.size block.tag) (block_number block))) (sym size)
    ∙ ap (λ (s : AddressSpace). ok_birth (born_of after (living_size + r) rings ring s (block_number block))) (sym memory)
    ∙ ap (λ (n : ℕ). ok_birth (born_of after (living_size + r) rings ring fresh n)) (sym address)

-- ---- deaths

pub death-facts : (table : BlocksState) (holes : HolesState) (living_size : ℕ) (block : Block) → AreTables table holes living_size → found_at block.at table.blocks ≡ Some block → LivingFacts block.at table.low table.high block
death-facts table holes living_size block t found = living-facts block.at table.low table.high block table.blocks t.order found

pub death-not-free : (table : BlocksState) (holes : HolesState) (living_size : ℕ) (block : Block) → AreTables table holes living_size → found_at block.at table.blocks ≡ Some block → IsNotFree block.at (rounded_size block.size) holes.ranges
death-not-free table holes living_size block t found =
    subst (IsNotFree block.at (rounded_size block.size)) (sym t.ranges) (living-not-free block table.low table.high table.blocks t.high_in_steps t.order found)

-- the free ranges after it, and the bytes in them
died-ranges : (table : BlocksState) (holes : HolesState) (living_size : ℕ) (block : Block) → AreTables table holes living_size → found_at block.at table.blocks ≡ Some block → given block.at (rounded_size block.size) holes.ranges ≡ gaps table.low table.high (without_block block.at table.blocks)
died-ranges table holes living_size block t found =
    ap (given block.at (rounded_size block.size)) t.ranges ∙ given-gaps block table.low table.high table.blocks t.high_in_steps t.order found

died-free : (table : BlocksState) (holes : HolesState) (living_size : ℕ) (block : Block) → AreTables table holes living_size → free_bytes (given block.at (rounded_size block.size) holes.ranges) ≡ free_bytes holes.ranges + rounded_size block.size
died-free table holes living_size block t =
    free_bytes-given block.at (rounded_size block.size) table.low table.high holes.ranges
    (subst (AreApart table.low table.high) (sym t.ranges) (AreApart-gaps table.low table.high table.blocks t.low_in_steps t.high_in_steps t.order))

pub death-size : (table : BlocksState) (holes : HolesState) (living_size : ℕ) (block : Block) → AreTables table holes living_size → found_at block.at table.blocks ≡ Some block → rounded_size block.size ≤ living_size
death-size table holes living_size block t found =
    let ordered = AreInOrder-without block.at table.low table.high table.blocks t.order in
    let facts = death-facts table holes living_size block t found in
    let above = facts.above in
    let below = facts.below in
    let bound : table.low ≤ table.high = omega arith in
    let within = free_bytes-within table.low table.high (gaps table.low table.high (without_block block.at table.blocks)) (AreApart-gaps table.low table.high (without_block block.at table.blocks) t.low_in_steps t.high_in_steps ordered) bound in
    let same = ap free_bytes (died-ranges table holes living_size block t found) in
    let free = died-free table holes living_size block t in
    let sum = t.size in
    omega (arith, within, same, free, sum)

pub died-tables : (table after : BlocksState) (holes left : HolesState) (living_size r : ℕ) (block : Block) → AreTables table holes living_size → found_at block.at table.blocks ≡ Some block → after ≡ record table { blocks = without_block block.at table.blocks } → left.ranges ≡ given block.at r holes.ranges → left.low ≡ holes.low → left.high ≡ holes.high → r ≡ rounded_size block.size → AreTables after left (living_size - r)
died-tables table after holes left living_size r block t found gone ranges low high size =
    let ranges_ : left.ranges ≡ given block.at (rounded_size block.size) holes.ranges = ranges ∙ ap (λ (n : ℕ). given block.at n holes.ranges) size in
    let free = died-free table holes living_size block t in
    let left_ = ap free_bytes ranges_ in
    let sum = t.size in
    let least = death-size table holes living_size block t found in
    let all_ : living_size - r + free_bytes left.ranges ≡ table.high - table.low = omega (arith, free, left_, sum, size, least) in
    subst (λ (s : BlocksState). AreTables s left (living_size - r)) (sym gone)
    (record {
      low_in_steps = t.low_in_steps;
      high_in_steps = t.high_in_steps;
      high = t.high;
      order = AreInOrder-without block.at table.low table.high table.blocks t.order;
      ranges = ranges_ ∙ died-ranges table holes living_size block t found;
      holes_low = low ∙ t.holes_low;
      holes_high = high ∙ t.holes_high;
      size = all_;
    })

-- the state after a death, by the tables
abbrev pub died_of : (table : BlocksState) (living_size : ℕ) (freed : List (List Freed)) (ring : ℕ) (space : AddressSpace) → AfterDeath
died_of table living_size freed ring space =
    record {
      heap = record { from = table.low; end = table.high; living = table.blocks; living_size = living_size; freed = freed; ring = ring };
      space = space;
    }

died-here : (table : BlocksState) (holes : HolesState) (living_size : ℕ) (rings : List (Kept Freed)) (ring : ℕ) (space : AddressSpace) (word task died : ℕ) (block : Block) → after_death (view_of table holes living_size rings ring).state space word task died block ≡ died_of (record table { blocks = without_block block.at table.blocks }) (living_size - rounded_size block.size) (slice_set (kept_of rings) task (take ring (record { block = block; died = died } ∷ unwrap_or (slice_get (kept_of rings) task) []))) ring (tag_plain space block.at (rounded_size block.size) (free_tag_of word block.tag))
unfolding after_death
died-here table holes living_size rings ring space word task died block = refl

pub died-state : (table after : BlocksState) (holes : HolesState) (living_size r : ℕ) (rings : List (Kept Freed)) (freed : List (List Freed)) (ring : ℕ) (now : HeapView) (space painted : AddressSpace) (word tag task died : ℕ) (block : Block) → view_of table holes living_size rings ring ≡ now → after ≡ record table { blocks = without_block block.at table.blocks } → r ≡ rounded_size block.size → freed ≡ slice_set (kept_of rings) task (take ring (record { block = block; died = died } ∷ unwrap_or (slice_get (kept_of rings) task) [])) → tag ≡ free_tag_of word block.tag → painted ≡ tag_plain space block.at r tag → after_death now.state space word task died block ≡ died_of after (living_size - r) freed ring painted
died-state table after holes living_size r rings freed ring now space painted word tag task died block view gone size remembered_ tag_ memory =
    ap (λ (h : HeapView). after_death h.state space word task died block) (sym view)
    ∙ died-here table holes living_size rings ring space word task died block
    ∙ ap (λ (s : BlocksState). died_of s (living_size - rounded_size block.size) (slice_set (kept_of rings) task (take ring (record { block = block; died = died } ∷ unwrap_or (slice_get (kept_of rings) task) []))) ring (tag_plain space block.at (rounded_size block.size) (free_tag_of word block.tag))) (sym gone)
    ∙ ap (λ (l : List (List Freed)). died_of after (living_size - rounded_size block.size) l ring (tag_plain space block.at (rounded_size block.size) (free_tag_of word block.tag))) (sym remembered_)
    ∙ ap (λ (n : ℕ). died_of after (living_size - n) freed ring (tag_plain space block.at n (free_tag_of word block.tag))) (sym size)
    ∙ ap (λ (n : ℕ). died_of after (living_size - r) freed ring (tag_plain space block.at r n)) (sym tag_)
    ∙ ap (λ (s : AddressSpace). died_of after (living_size - r) freed ring s) (sym memory)

-- ---- the block that a free ends

by_test : (t : Bool) (address : ℕ) (other block : Block) (later : Option Block) → (other.at == address) ≡ t → (if t then Some other else later) ≡ Some block → (later ≡ Some block → block.at ≡ address) → block.at ≡ address
by_test true address other block later e h rest = let same : other ≡ block = cc in subst (λ (b : Block). b.at ≡ address) same (grind (arith, nat_tests))
by_test false address other block later e h rest = rest h

found_at-same : (address : ℕ) (block : Block) (blocks : List Block) → found_at address blocks ≡ Some block → block.at ≡ address
found_at-same address block [] found = absurd (cc)
found_at-same address block (other ∷ blocks) found = by_test (other.at == address) address other block (found_at address blocks) refl found (found_at-same address block blocks)

found_at-again : (address : ℕ) (block : Block) (blocks : List Block) → found_at address blocks ≡ Some block → found_at block.at blocks ≡ Some block
found_at-again address block blocks found =
    subst (λ (n : ℕ). found_at n blocks ≡ Some block) (sym (found_at-same address block blocks found)) found

freed-found : (t : Bool) (o : Option Block) (block : Block) → (if t then None else o) ≡ Some block → o ≡ Some block
freed-found true o block h = absurd (cc)
freed-found false o block h = h

ok-same : {A E : Type 0} (o : Option E) (a b : A) → ok_unless o a ≡ Ok b → a ≡ b
ok-same None a b h = cc
ok-same (Some e) a b h = absurd (cc)

abbrev pub ok_found : Option Block → Result (Option Block) FreeMismatch
ok_found o = Ok o

pub to_free-living : (heap : HeapState) (number : ℕ) (block : Block) (r : Result (Option Block) FreeMismatch) → r ≡ ok_unless (free_mismatch heap number) (freed_block heap number) → r ≡ Ok (Some block) → found_at block.at heap.living ≡ Some block
to_free-living heap number block r e ok =
    let freed : freed_block heap number ≡ Some block = ok-same (free_mismatch heap number) (freed_block heap number) (Some block) (sym e ∙ ok) in
    found_at-again (address_of number) block heap.living (freed-found (number == 0) (found_at (address_of number) heap.living) block freed)
