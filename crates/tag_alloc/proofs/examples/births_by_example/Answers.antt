use Rattle.std.proofs.Common.{refl}
use Rattle.tbi_memory.specs.MappedBytes.{byte_at, write}
use Rattle.tbi_memory.specs.AddressSpace.{zeros}
use Rattle.tbi_memory.specs.SmallSpace.{small_space}
use Rattle.hw_tags.specs.LeastPlace.{first_place}
use Rattle.tag_alloc.specs.HeapBlocks.{with_block}
use Rattle.tag_alloc.specs.HeapSteps.{after_birth, allocated, after_death}
use Rattle.tag_alloc.specs.SmallHeap.{empty_heap, heap_of_one, heap_of_two, heap_of_one_freed}
use Rattle.tag_alloc.proofs.examples.births_by_example.Goals as goal

pub returns-clause-first : goal.returns-clause-first
unfolding byte_at write zeros small_space first_place with_block after_birth allocated after_death empty_heap heap_of_one heap_of_two heap_of_one_freed
returns-clause-first c = refl

pub returns-clause-number : goal.returns-clause-number
unfolding byte_at write zeros small_space first_place with_block after_birth allocated after_death empty_heap heap_of_one heap_of_two heap_of_one_freed
returns-clause-number c = refl

pub returns-clause-last_byte : goal.returns-clause-last_byte
unfolding byte_at write zeros small_space first_place with_block after_birth allocated after_death empty_heap heap_of_one heap_of_two heap_of_one_freed
returns-clause-last_byte c = refl

pub returns-clause-second : goal.returns-clause-second
unfolding byte_at write zeros small_space first_place with_block after_birth allocated after_death empty_heap heap_of_one heap_of_two heap_of_one_freed
returns-clause-second c = refl

pub returns-clause-in_order : goal.returns-clause-in_order
unfolding byte_at write zeros small_space first_place with_block after_birth allocated after_death empty_heap heap_of_one heap_of_two heap_of_one_freed
returns-clause-in_order c = refl

pub returns-clause-full : goal.returns-clause-full
unfolding byte_at write zeros small_space first_place with_block after_birth allocated after_death empty_heap heap_of_one heap_of_two heap_of_one_freed
returns-clause-full c = refl

pub returns-clause-again : goal.returns-clause-again
unfolding byte_at write zeros small_space first_place with_block after_birth allocated after_death empty_heap heap_of_one heap_of_two heap_of_one_freed
returns-clause-again c = refl

pub returns-clause-living_size : goal.returns-clause-living_size
unfolding byte_at write zeros small_space first_place with_block after_birth allocated after_death empty_heap heap_of_one heap_of_two heap_of_one_freed
returns-clause-living_size c = refl

pub returns-clause-freed_size : goal.returns-clause-freed_size
unfolding byte_at write zeros small_space first_place with_block after_birth allocated after_death empty_heap heap_of_one heap_of_two heap_of_one_freed
returns-clause-freed_size c = refl
