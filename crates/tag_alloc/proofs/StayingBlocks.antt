-- A birth leaves the other blocks where they are: a free of one of them ends the same block after it.
use Rattle.std.proofs.Common.{◌≡◌, ◌≢◌, ℕ, Bool, true, false, List, [], ◌∷◌, map, Option, Some, None, Result, Ok, Err, refl, sym, ◌∙◌, ap, subst, arith}
use Rattle.std.specs.Prelude.{◌&&◌, ◌+◌, ◌==◌, nat_le, nat_lt, if◌then◌else◌}
use Rattle.std.specs.List.{list_all}
use Rattle.std.proofs.lemmas.Bool.Decides.{nat_tests}
use Rattle.hw_base.specs.AddressMap.{rounded_size}
use Rattle.hw_base.specs.TaggedAddress.{address_of}
use Rattle.hw_base.specs.declared.endings.Full.{Full}
use Rattle.hw_tags.specs.LeastPlace.{is_apart}
use Rattle.hw_tags.proofs.LeastPlaceLemmas.{least_fit-some}
use Rattle.tbi_memory.specs.AddressSpace.{AddressSpace}
use Rattle.tag_alloc.specs.declared.blocks.Block.{Block}
use Rattle.tag_alloc.specs.HeapBlocks.{HeapState, freed_block, heap_full, place_of_new, span_of, with_block}
use Rattle.tag_alloc.specs.HeapSteps.{AfterBirth, after_birth, allocated, new_block}
use Rattle.tag_alloc.proofs.GapLemmas.{rounded-least}
use Rattle.tag_alloc.proofs.HeapLemmas.{apart-unused}
use Rattle.tag_alloc.proofs.TableLemmas.{found_at, found_at-past}

-- the block at another address is the same with one block more
found_at-with_block : (address : ℕ) (block : Block) (blocks : List Block) → block.at ≢ address → found_at address (with_block block blocks) ≡ found_at address blocks
unfolding with_block
found_at-with_block address block [] other = found_at-past address block [] other
found_at-with_block address block (first ∷ blocks) other = by (nat_lt block.at first.at) (found_at-with_block address block blocks other)
  where
    by : (t : Bool) → found_at address (with_block block blocks) ≡ found_at address blocks → found_at address (if t then block ∷ first ∷ blocks else first ∷ with_block block blocks) ≡ found_at address (first ∷ blocks)
    by true rest = found_at-past address block (first ∷ blocks) other
    by false rest = ap (λ (o : Option Block). if first.at == address then Some first else o) rest

second : (s t : Bool) → s && t ≡ true → t ≡ true
second true t h = h
second false t h = absurd cc

-- no block begins at the place of a new one
place-unused : (heap : HeapState) (size place : ℕ) → place_of_new heap size ≡ Some place → found_at place heap.living ≡ None
place-unused heap size place h =
    let found = least_fit-some (map span_of heap.living) (rounded_size size) heap.from heap.end place (rounded-least size) h in
    apart-unused place (rounded_size size) heap.living (rounded-least size)
    (second (nat_le (place + rounded_size size) heap.end) (list_all (is_apart place (rounded_size size)) (map span_of heap.living)) found.place.fits)

-- a birth, by the place of the new block
born_on : Option ℕ → HeapState → AddressSpace → (word size birth born : ℕ) → Result AfterBirth Full
born_on o heap space word size birth born = elim o [ None ↦ Err (heap_full heap size) | Some place ↦ Ok (after_birth heap space (new_block word place size birth born)) ]

found-born_on : (o : Option ℕ) (heap : HeapState) (space : AddressSpace) (word size birth born address : ℕ) (after : AfterBirth) (block : Block) → place_of_new heap size ≡ o
    → born_on o heap space word size birth born ≡ Ok after → found_at address heap.living ≡ Some block → found_at address after.heap.living ≡ Some block
unfolding born_on after_birth
found-born_on None heap space word size birth born address after block e h found = absurd cc
found-born_on (Some place) heap space word size birth born address after block e h found =
    let same : after_birth heap space (new_block word place size birth born) ≡ after = cc in
    let unused = place-unused heap size place e in
    let other : place ≢ address = λ (at : place ≡ address). let no = subst (λ (n : ℕ). found_at n heap.living ≡ None) at unused in absurd cc in
    subst (λ (a : AfterBirth). found_at address a.heap.living ≡ Some block) same
    (found_at-with_block address (new_block word place size birth born) heap.living other ∙ found)

found-allocated : (heap : HeapState) (space : AddressSpace) (word size birth born address : ℕ) (after : AfterBirth) (block : Block)
    → allocated heap space word size birth born ≡ Ok after → found_at address heap.living ≡ Some block → found_at address after.heap.living ≡ Some block
unfolding allocated born_on
found-allocated heap space word size birth born address after block h found =
    found-born_on (place_of_new heap size) heap space word size birth born address after block refl h found

-- what a free of a number ends is the same after a birth
pub freed_block-allocated : (heap : HeapState) (space : AddressSpace) (word size birth born number : ℕ) (after : AfterBirth) (block : Block)
    → allocated heap space word size birth born ≡ Ok after → freed_block heap number ≡ Some block → freed_block after.heap number ≡ Some block
freed_block-allocated heap space word size birth born number after block h freed = by (number == 0) freed
  where
    by : (t : Bool) → (if t then None else found_at (address_of number) heap.living) ≡ Some block → (if t then None else found_at (address_of number) after.heap.living) ≡ Some block
    by true is = absurd cc
    by false is = found-allocated heap space word size birth born (address_of number) after block h is
