use Rattle.std.proofs.Common.{refl}
use Rattle.tbi_memory.specs.MappedBytes.{byte_at, write}
use Rattle.tbi_memory.specs.AddressSpace.{zeros}
use Rattle.tbi_memory.specs.SmallSpace.{small_space}
use Rattle.hw_tags.specs.LeastPlace.{first_place}
use Rattle.tag_alloc.specs.HeapBlocks.{with_block}
use Rattle.tag_alloc.specs.HeapSteps.{after_birth, allocated, after_death}
use Rattle.tag_alloc.specs.SmallHeap.{empty_heap, heap_of_one, heap_of_two, heap_of_one_freed}
use Rattle.tag_alloc.proofs.examples.frees_by_example.Goals as goal

pub returns-clause-passes : goal.returns-clause-passes
unfolding byte_at write zeros small_space first_place with_block after_birth allocated after_death empty_heap heap_of_one heap_of_two heap_of_one_freed
returns-clause-passes c = refl

pub returns-clause-zero : goal.returns-clause-zero
unfolding byte_at write zeros small_space first_place with_block after_birth allocated after_death empty_heap heap_of_one heap_of_two heap_of_one_freed
returns-clause-zero c = refl

pub returns-clause-another_tag : goal.returns-clause-another_tag
unfolding byte_at write zeros small_space first_place with_block after_birth allocated after_death empty_heap heap_of_one heap_of_two heap_of_one_freed
returns-clause-another_tag c = refl

pub returns-clause-inside : goal.returns-clause-inside
unfolding byte_at write zeros small_space first_place with_block after_birth allocated after_death empty_heap heap_of_one heap_of_two heap_of_one_freed
returns-clause-inside c = refl

pub returns-clause-twice : goal.returns-clause-twice
unfolding byte_at write zeros small_space first_place with_block after_birth allocated after_death empty_heap heap_of_one heap_of_two heap_of_one_freed
returns-clause-twice c = refl

pub returns-clause-free_tag : goal.returns-clause-free_tag
unfolding byte_at write zeros small_space first_place with_block after_birth allocated after_death empty_heap heap_of_one heap_of_two heap_of_one_freed
returns-clause-free_tag c = refl

pub returns-clause-other_tag : goal.returns-clause-other_tag
unfolding byte_at write zeros small_space first_place with_block after_birth allocated after_death empty_heap heap_of_one heap_of_two heap_of_one_freed
returns-clause-other_tag c = refl

pub returns-clause-byte_stays : goal.returns-clause-byte_stays
unfolding byte_at write zeros small_space first_place with_block after_birth allocated after_death empty_heap heap_of_one heap_of_two heap_of_one_freed
returns-clause-byte_stays c = refl

pub returns-clause-is_remembered : goal.returns-clause-is_remembered
unfolding byte_at write zeros small_space first_place with_block after_birth allocated after_death empty_heap heap_of_one heap_of_two heap_of_one_freed
returns-clause-is_remembered c = refl
