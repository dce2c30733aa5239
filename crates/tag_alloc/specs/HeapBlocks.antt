-- The table of heap blocks: where a block is born, and which number names a living one. Where blocks begin, what is
-- remembered of freed ones, and that a free compares tags are this project's choice.
use Rattle.std.specs.Prelude.{◌≡◌, ◌≢◌, ℕ, ◌+◌, List, [], ◌∷◌, ◌++◌, not, nat_lt, ◌==◌, ◌⊎◌, if◌then◌else◌, Option, Some, None, unwrap_or, map, slice_get, sum_by}
use Rattle.std.specs.List.{filter, find}
use Rattle.hw_base.specs.declared.endings.Full.{Full}
use Rattle.hw_base.specs.declared.endings.Space.TheVariants.{Heap}
use Rattle.hw_base.specs.AddressMap.{AddressMap, rounded_size}
use Rattle.hw_base.specs.TaggedAddress.{address_of, pointer_tag, tagged_address}
use Rattle.hw_tags.specs.LeastPlace.{Span, least_fit}
use Rattle.tag_alloc.specs.declared.blocks.Block.{Block}
use Rattle.tag_alloc.specs.declared.blocks.Freed.{Freed}
use Rattle.tag_alloc.specs.declared.blocks.FreeMismatch.{FreeMismatch}

-- the heap's first address and the one after its last; the living blocks in order of place, and the sum of their rounded
-- sizes; the blocks that each task freed, newest first, and how many of them are remembered
pub record HeapState : Type 0 where
  pub from : ℕ
  pub end : ℕ
  pub living : List Block
  pub living_size : ℕ
  pub freed : List (List Freed)
  pub ring : ℕ

-- a heap without blocks and tasks
abbrev pub heap_at_start : AddressMap → ℕ → HeapState
heap_at_start places ring =
    record { from = places.heap_at; end = places.heap_at + places.heap_length; living = []; living_size = 0; freed = []; ring = ring }

-- one more task, which has freed nothing
abbrev pub with_task : HeapState → HeapState
with_task heap = record heap { freed = heap.freed ++ [] ∷ [] }

-- the bytes that a block takes
abbrev pub span_of : Block → Span
span_of block = record { at = block.at; size = rounded_size block.size }

-- the place of a new block of this size: the least at which it lies wholly in the heap and overlaps no living block
abbrev pub place_of_new : HeapState → ℕ → Option ℕ
place_of_new heap size = least_fit (map span_of heap.living) (rounded_size size) heap.from heap.end

-- there is no place for a block of this size
abbrev pub heap_full : HeapState → ℕ → Full
heap_full heap size = record { space = Heap; asked = size; living = heap.living_size }

-- blocks in order of place with one more
unfoldable pub with_block : Block → List Block → List Block
with_block block [] = block ∷ []
with_block block (other ∷ blocks) =
    if nat_lt block.at other.at then block ∷ other ∷ blocks else other ∷ with_block block blocks

-- the blocks but the one at an address
abbrev pub without_block : ℕ → List Block → List Block
without_block address blocks = filter (λ block. not (block.at == address)) blocks

-- the living block that begins at an address
abbrev pub block_at : HeapState → ℕ → Option Block
block_at heap address = find (λ block. block.at == address) heap.living

-- the tagged address of a block's first byte
abbrev pub block_number : Block → ℕ
block_number block = tagged_address block.tag block.at

-- what a free finds at its number, or none if the living block there has the number's tag
abbrev pub mismatch_with : ℕ → Option Block → Option FreeMismatch
mismatch_with pointer None = Some (record { pointer = pointer; block = None })
mismatch_with pointer (Some block) =
    if block.tag == pointer then None else Some (record { pointer = pointer; block = Some block.tag })

-- What refuses a free of a number, or none if it passes: the number 0 passes, and the tagged address of a living block.
abbrev pub free_mismatch : HeapState → ℕ → Option FreeMismatch
free_mismatch heap number =
    if number == 0 then None else mismatch_with (pointer_tag number) (block_at heap (address_of number))

-- a number may be freed: it is 0, or a living block begins at its address and has its tag
abbrev pub IsFreeable : HeapState → ℕ → Type 0
IsFreeable heap number =
    (number ≡ 0) ⊎ ((block : Block) × (block_at heap (address_of number) ≡ Some block) × (block.tag ≡ pointer_tag number))

-- the block that a free of a number ends; the number 0 ends none
abbrev pub freed_block : HeapState → ℕ → Option Block
freed_block heap number = if number == 0 then None else block_at heap (address_of number)

-- the blocks that a task freed and that are remembered, newest first
abbrev pub freed_by : HeapState → ℕ → List Freed
freed_by heap task = unwrap_or (slice_get heap.freed task) []

-- ---- what each table of blocks keeps

-- the sum of the rounded sizes of blocks
abbrev pub size_sum : List Block → ℕ
size_sum blocks = sum_by (λ block. rounded_size block.size) blocks

-- none of these blocks begins at an address
abbrev pub BeginElsewhere : ℕ → List Block → Type 0
BeginElsewhere address blocks = (i : ℕ) (block : Block) → slice_get blocks i ≡ Some block → block.at ≢ address

-- no two of these blocks begin at one address
abbrev pub BeginApart : List Block → Type 0
BeginApart [] = Unit {0}
BeginApart (block ∷ blocks) = BeginElsewhere block.at blocks × BeginApart blocks

-- the living blocks begin apart, and the living size is the sum of their rounded sizes
pub record IsTableOfBlocks (heap : HeapState) : Type 0 where
  pub apart : BeginApart heap.living
  pub sum : heap.living_size ≡ size_sum heap.living
