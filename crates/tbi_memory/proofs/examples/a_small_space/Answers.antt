use Rattle.std.proofs.Common.{refl}
use Rattle.hw_shadow.specs.TagRule.{first_mismatch}
use Rattle.tbi_memory.specs.MappedBytes.{byte_at, write, read_bytes}
use Rattle.tbi_memory.specs.AddressSpace.{written, zeros}
use Rattle.tbi_memory.specs.SmallSpace.{small_space, space_of_seventeen}
use Rattle.tbi_memory.proofs.examples.a_small_space.Goals as goal

pub returns-clause-constant : goal.returns-clause-constant
unfolding first_mismatch byte_at write read_bytes written zeros small_space space_of_seventeen
returns-clause-constant c = refl

pub returns-clause-last_of_a_stack : goal.returns-clause-last_of_a_stack
unfolding first_mismatch byte_at write read_bytes written zeros small_space space_of_seventeen
returns-clause-last_of_a_stack c = refl

pub returns-clause-after_the_stacks : goal.returns-clause-after_the_stacks
unfolding first_mismatch byte_at write read_bytes written zeros small_space space_of_seventeen
returns-clause-after_the_stacks c = refl

pub returns-clause-last_of_the_heap : goal.returns-clause-last_of_the_heap
unfolding first_mismatch byte_at write read_bytes written zeros small_space space_of_seventeen
returns-clause-last_of_the_heap c = refl

pub returns-clause-tag_of_the_variable : goal.returns-clause-tag_of_the_variable
unfolding first_mismatch byte_at write read_bytes written zeros small_space space_of_seventeen
returns-clause-tag_of_the_variable c = refl

pub returns-clause-tag_of_nothing : goal.returns-clause-tag_of_nothing
unfolding first_mismatch byte_at write read_bytes written zeros small_space space_of_seventeen
returns-clause-tag_of_nothing c = refl
