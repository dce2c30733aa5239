-- The living size of a heap is the sum of its blocks' rounded sizes.
use Rattle.std.proofs.Common.{◌≡◌, ◌≢◌, ℕ, zero, suc, ◌+◌, ◌≤◌, Bool, true, false, ◌&&◌, not, List, [], ◌∷◌, map, Option, Some, None, refl, sym, ap, subst, inl, inr, arith}
use Rattle.std.specs.Prelude.{slice_get, ◌==◌, nat_lt, nat_le, ◌||◌, if◌then◌else◌, Result, Ok, Err}
use Rattle.std.specs.List.{list_all}
use Rattle.std.proofs.lemmas.Bool.Decides.{nat_tests}
use Rattle.std.proofs.lemmas.List.Sums.{sum_by-cons}
use Rattle.hw_base.specs.declared.endings.Full.{Full}
use Rattle.hw_base.specs.AddressMap.{rounded_size}
use Rattle.hw_tags.specs.LeastPlace.{is_apart}
use Rattle.hw_tags.proofs.LeastPlaceLemmas.{least_fit-some}
use Rattle.tbi_memory.specs.AddressSpace.{AddressSpace}
use Rattle.tag_alloc.specs.declared.blocks.Block.{Block}
use Rattle.tag_alloc.specs.HeapBlocks.{HeapState, with_task, span_of, place_of_new, heap_full, with_block, without_block, size_sum, BeginElsewhere, BeginApart, IsTableOfBlocks}
use Rattle.tag_alloc.specs.HeapSteps.{AfterBirth, new_block, after_birth, allocated, after_death}
use Rattle.tag_alloc.proofs.HeapBlockLemmas.{with_block-no_other, without_block-dead}

size_sum-cons : (block : Block) (blocks : List Block) → size_sum (block ∷ blocks) ≡ rounded_size block.size + size_sum blocks
size_sum-cons block blocks = sum_by-cons (λ (b : Block). rounded_size b.size) block blocks

-- ---- births

-- the sum with a block more, by whether it comes before the first one
put-sum : (t : Bool) (block other : Block) (blocks later : List Block) → size_sum later ≡ rounded_size block.size + size_sum blocks → size_sum (if t then block ∷ other ∷ blocks else other ∷ later) ≡ rounded_size block.size + size_sum (other ∷ blocks)
put-sum true block other blocks later h = size_sum-cons block (other ∷ blocks)
put-sum false block other blocks later h =
    let first = size_sum-cons other later in
    let all = size_sum-cons other blocks in
    omega (arith, first, all, h)

size_sum-with_block : (block : Block) (blocks : List Block) → size_sum (with_block block blocks) ≡ rounded_size block.size + size_sum blocks
unfolding with_block
size_sum-with_block block [] = size_sum-cons block []
size_sum-with_block block (other ∷ blocks) = put-sum (nat_lt block.at other.at) block other blocks (with_block block blocks) (size_sum-with_block block blocks)

elsewhere-tail : (address : ℕ) (first : Block) (blocks : List Block) → BeginElsewhere address (first ∷ blocks) → BeginElsewhere address blocks
elsewhere-tail address first blocks h i block there = h (suc i) block there

-- a block that begins elsewhere, before blocks or among them
elsewhere-with_block : (address : ℕ) (block : Block) (blocks : List Block) → block.at ≢ address → BeginElsewhere address blocks → BeginElsewhere address (with_block block blocks)
elsewhere-with_block address block blocks own_ rest i other there =
    elim (with_block-no_other block other blocks i there) [
      | inl same ↦ subst (λ (b : Block). b.at ≢ address) (sym same) own_
      | inr found ↦ rest found.0 other found.1
    ]

put-apart : (t : Bool) (block other : Block) (blocks later : List Block) → BeginElsewhere block.at (other ∷ blocks) → BeginApart (other ∷ blocks) → BeginElsewhere other.at later → BeginApart later → BeginApart (if t then block ∷ other ∷ blocks else other ∷ later)
put-apart true block other blocks later new apart others rest = (new, apart)
put-apart false block other blocks later new apart others rest = (others, rest)

apart-with_block : (block : Block) (blocks : List Block) → BeginElsewhere block.at blocks → BeginApart blocks → BeginApart (with_block block blocks)
unfolding with_block
apart-with_block block [] new apart = (new, tt)
apart-with_block block (other ∷ blocks) new apart =
    let away : block.at ≢ other.at = λ e. new 0 other refl (sym e) in
    put-apart (nat_lt block.at other.at) block other blocks (with_block block blocks) new apart
    (elsewhere-with_block other.at block blocks away apart.0)
    (apart-with_block block blocks (elsewhere-tail block.at other blocks new) apart.1)

-- ---- the place of a new block

both : (s t : Bool) → s && t ≡ true → (s ≡ true) × (t ≡ true)
both true t h = (refl, h)
both false t h = cc

rounded-least : (size : ℕ) → 16 ≤ rounded_size size
rounded-least zero = omega arith
rounded-least (suc n) = omega arith

apart-elsewhere : (address size : ℕ) (block : Block) → 16 ≤ size → is_apart address size (span_of block) ≡ true → block.at ≢ address
apart-elsewhere address size block large h e =
    let some = rounded-least block.size in
    by_tests (nat_le (address + size) block.at) (nat_le (block.at + rounded_size block.size) address) refl refl h
  where
    by_tests : (s t : Bool) → nat_le (address + size) block.at ≡ s → nat_le (block.at + rounded_size block.size) address ≡ t → s || t ≡ true → ⊥
    by_tests true t below above q = let some = rounded-least block.size in let h1 : address + size ≤ block.at = grind (arith, nat_tests) in omega arith
    by_tests false true below above q = let some = rounded-least block.size in let h1 : block.at + rounded_size block.size ≤ address = grind (arith, nat_tests) in omega arith
    by_tests false false below above q = cc

at-elsewhere : (address : ℕ) (first block : Block) (blocks : List Block) (k : ℕ) → slice_get (first ∷ blocks) k ≡ Some block → first.at ≢ address → BeginElsewhere address blocks → block.at ≢ address
at-elsewhere address first block blocks zero found here rest = let same : first ≡ block = cc in subst (λ (b : Block). b.at ≢ address) same here
at-elsewhere address first block blocks (suc k) found here rest = rest k block found

all-elsewhere : (address size : ℕ) (blocks : List Block) → 16 ≤ size → list_all (is_apart address size) (map span_of blocks) ≡ true → BeginElsewhere address blocks
all-elsewhere address size [] large h i block there = cc
all-elsewhere address size (first ∷ blocks) large h i block there =
    let parts = both (is_apart address size (span_of first)) (list_all (is_apart address size) (map span_of blocks)) h in
    at-elsewhere address first block blocks i there (apart-elsewhere address size first large parts.0) (all-elsewhere address size blocks large parts.1)

place-elsewhere : (heap : HeapState) (size place : ℕ) → place_of_new heap size ≡ Some place → BeginElsewhere place heap.living
place-elsewhere heap size place h =
    let found = least_fit-some (map span_of heap.living) (rounded_size size) heap.from heap.end place (rounded-least size) h in
    let parts = both (nat_le (place + rounded_size size) heap.end) (list_all (is_apart place (rounded_size size)) (map span_of heap.living)) found.place.fits in
    all-elsewhere place (rounded_size size) heap.living (rounded-least size) parts.1

pub table-with_task : (heap : HeapState) → IsTableOfBlocks heap → IsTableOfBlocks (with_task heap)
table-with_task heap table = record { apart = table.apart; sum = table.sum }

table-after_birth : (heap : HeapState) (space : AddressSpace) (block : Block) → IsTableOfBlocks heap → BeginElsewhere block.at heap.living → IsTableOfBlocks (after_birth heap space block).heap
unfolding after_birth
table-after_birth heap space block table new =
    let sum = size_sum-with_block block heap.living in
    let old = table.sum in
    record { apart = apart-with_block block heap.living new table.apart; sum = omega (arith, sum, old) }

-- a birth, by the place of the new block
born_on : Option ℕ → HeapState → AddressSpace → (word size birth born : ℕ) → Result AfterBirth Full
born_on o heap space word size birth born = elim o [ None ↦ Err (heap_full heap size) | Some place ↦ Ok (after_birth heap space (new_block word place size birth born)) ]

table-born_on : (o : Option ℕ) (heap : HeapState) (space : AddressSpace) (word size birth born : ℕ) (after : AfterBirth) → place_of_new heap size ≡ o → IsTableOfBlocks heap → born_on o heap space word size birth born ≡ Ok after → IsTableOfBlocks after.heap
unfolding born_on
table-born_on None heap space word size birth born after e table h = absurd (cc)
table-born_on (Some place) heap space word size birth born after e table h =
    let same : after_birth heap space (new_block word place size birth born) ≡ after = cc in
    subst (λ (a : AfterBirth). IsTableOfBlocks a.heap) same
    (table-after_birth heap space (new_block word place size birth born) table (place-elsewhere heap size place e))

pub table-allocated : (heap : HeapState) (space : AddressSpace) (word size birth born : ℕ) (after : AfterBirth) → IsTableOfBlocks heap → allocated heap space word size birth born ≡ Ok after → IsTableOfBlocks after.heap
unfolding allocated born_on
table-allocated heap space word size birth born after table h = table-born_on (place_of_new heap size) heap space word size birth born after refl table h

-- ---- deaths

-- blocks that begin elsewhere stay
kept-all : (address : ℕ) (first : Block) (blocks : List Block) (t : Bool) → (first.at == address) ≡ t → first.at ≢ address → without_block address blocks ≡ blocks → (if not t then first ∷ without_block address blocks else without_block address blocks) ≡ first ∷ blocks
kept-all address first blocks true e other rest = absurd (other (grind (arith, nat_tests)))
kept-all address first blocks false e other rest = ap (λ (xs : List Block). first ∷ xs) rest

without-elsewhere : (address : ℕ) (blocks : List Block) → BeginElsewhere address blocks → without_block address blocks ≡ blocks
without-elsewhere address [] h = refl
without-elsewhere address (first ∷ blocks) h = kept-all address first blocks (first.at == address) refl (h 0 first refl) (without-elsewhere address blocks (elsewhere-tail address first blocks h))

died-sum : (block first : Block) (blocks : List Block) (i : ℕ) (t : Bool) → (first.at == block.at) ≡ t → slice_get (first ∷ blocks) i ≡ Some block → BeginApart (first ∷ blocks)
    → ((k : ℕ) → slice_get blocks k ≡ Some block → size_sum (without_block block.at blocks) + rounded_size block.size ≡ size_sum blocks)
    → size_sum (if not t then first ∷ without_block block.at blocks else without_block block.at blocks) + rounded_size block.size ≡ size_sum (first ∷ blocks)
died-sum block first blocks zero true e there apart rest =
    let same : first ≡ block = cc in
    let gone : without_block block.at blocks ≡ blocks = without-elsewhere block.at blocks (subst (λ (b : Block). BeginElsewhere b.at blocks) same apart.0) in
    let sums : size_sum (without_block block.at blocks) ≡ size_sum blocks = ap size_sum gone in
    let size : rounded_size first.size ≡ rounded_size block.size = ap (λ (b : Block). rounded_size b.size) same in
    let all = size_sum-cons first blocks in
    omega (arith, sums, size, all)
died-sum block first blocks (suc i) true e there apart rest =
    let equal : first.at ≡ block.at = grind (arith, nat_tests) in
    absurd (apart.0 i block there (sym equal))
died-sum block first blocks zero false e there apart rest =
    let same : first ≡ block = cc in
    let equal : first.at ≡ block.at = ap (λ (b : Block). b.at) same in
    absurd (let no : (first.at == block.at) ≡ true = grind (arith, nat_tests) in cc)
died-sum block first blocks (suc i) false e there apart rest =
    let sums = rest i there in
    let kept = size_sum-cons first (without_block block.at blocks) in
    let all = size_sum-cons first blocks in
    omega (arith, sums, kept, all)

size_sum-without : (block : Block) (blocks : List Block) (i : ℕ) → slice_get blocks i ≡ Some block → BeginApart blocks → size_sum (without_block block.at blocks) + rounded_size block.size ≡ size_sum blocks
size_sum-without block [] i there apart = absurd (cc)
size_sum-without block (first ∷ blocks) i there apart =
    died-sum block first blocks i (first.at == block.at) refl there apart
    (λ (k : ℕ) (later : slice_get blocks k ≡ Some block). size_sum-without block blocks k later apart.1)

-- blocks that begin elsewhere do so when one is gone
elsewhere-without : (address gone : ℕ) (blocks : List Block) → BeginElsewhere address blocks → BeginElsewhere address (without_block gone blocks)
elsewhere-without address gone blocks h i block there =
    let (away, (j, found)) = without_block-dead gone block blocks i there in h j block found

apart-kept : (gone : ℕ) (first : Block) (blocks : List Block) (t : Bool) → BeginElsewhere first.at blocks → BeginApart (without_block gone blocks) → BeginApart (if t then first ∷ without_block gone blocks else without_block gone blocks)
apart-kept gone first blocks true others rest = (elsewhere-without first.at gone blocks others, rest)
apart-kept gone first blocks false others rest = rest

apart-without : (gone : ℕ) (blocks : List Block) → BeginApart blocks → BeginApart (without_block gone blocks)
apart-without gone [] apart = tt
apart-without gone (first ∷ blocks) apart = apart-kept gone first blocks (not (first.at == gone)) apart.0 (apart-without gone blocks apart.1)

pub table-after_death : (heap : HeapState) (space : AddressSpace) (word task died i : ℕ) (block : Block) → IsTableOfBlocks heap → slice_get heap.living i ≡ Some block → IsTableOfBlocks (after_death heap space word task died block).heap
unfolding after_death
table-after_death heap space word task died i block table there =
    let sums = size_sum-without block heap.living i there table.apart in
    let old = table.sum in
    record { apart = apart-without block.at heap.living table.apart; sum = omega (arith, sums, old) }
