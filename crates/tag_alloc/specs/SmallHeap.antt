-- Heaps for examples, over the small address space: empty, with a block of 17 bytes and the tag 42 at its start, and with
-- that and a block of 16 bytes and the tag 4 after it.
use Rattle.tbi_memory.specs.SmallSpace.{small_map, small_space}
use Rattle.tag_alloc.specs.declared.blocks.Block.{Block}
use Rattle.tag_alloc.specs.HeapBlocks.{HeapState, heap_at_start, with_task}
use Rattle.tag_alloc.specs.HeapSteps.{AfterBirth, AfterDeath, after_birth, after_death}

-- one task, and a ring of one
unfoldable pub empty_heap : HeapState
empty_heap = with_task (heap_at_start small_map 1)

abbrev pub first_block : Block
first_block = record { at = 536870912; size = 17; tag = 42; birth = 1; born = 0 }

abbrev pub second_block : Block
second_block = record { at = 536870944; size = 16; tag = 4; birth = 2; born = 0 }

unfoldable pub heap_of_one : AfterBirth
heap_of_one = after_birth empty_heap small_space first_block

unfoldable pub heap_of_two : AfterBirth
heap_of_two = after_birth heap_of_one.heap heap_of_one.space second_block

-- the first block freed by task 0, for the word 26
unfoldable pub heap_of_one_freed : AfterDeath
heap_of_one_freed = after_death heap_of_two.heap heap_of_two.space 26 0 7 first_block
