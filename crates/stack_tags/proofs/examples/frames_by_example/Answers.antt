use Rattle.std.proofs.Common.{refl}
use Rattle.tbi_memory.specs.MappedBytes.{byte_at, write}
use Rattle.tbi_memory.specs.AddressSpace.{zeros}
use Rattle.tbi_memory.specs.SmallSpace.{small_space}
use Rattle.stack_tags.specs.FrameSteps.{with_variables, after_entry, entered, left}
use Rattle.stack_tags.specs.SmallStacks.{empty_stacks, stacks_of_one, stacks_left}
use Rattle.stack_tags.proofs.examples.frames_by_example.Goals as goal

pub returns-clause-enters : goal.returns-clause-enters
unfolding byte_at write zeros small_space with_variables after_entry entered left empty_stacks stacks_of_one stacks_left
returns-clause-enters c = refl

pub returns-clause-low : goal.returns-clause-low
unfolding byte_at write zeros small_space with_variables after_entry entered left empty_stacks stacks_of_one stacks_left
returns-clause-low c = refl

pub returns-clause-first : goal.returns-clause-first
unfolding byte_at write zeros small_space with_variables after_entry entered left empty_stacks stacks_of_one stacks_left
returns-clause-first c = refl

pub returns-clause-second : goal.returns-clause-second
unfolding byte_at write zeros small_space with_variables after_entry entered left empty_stacks stacks_of_one stacks_left
returns-clause-second c = refl

pub returns-clause-first_tag : goal.returns-clause-first_tag
unfolding byte_at write zeros small_space with_variables after_entry entered left empty_stacks stacks_of_one stacks_left
returns-clause-first_tag c = refl

pub returns-clause-short_tag : goal.returns-clause-short_tag
unfolding byte_at write zeros small_space with_variables after_entry entered left empty_stacks stacks_of_one stacks_left
returns-clause-short_tag c = refl

pub returns-clause-last_byte : goal.returns-clause-last_byte
unfolding byte_at write zeros small_space with_variables after_entry entered left empty_stacks stacks_of_one stacks_left
returns-clause-last_byte c = refl

pub returns-clause-second_tag : goal.returns-clause-second_tag
unfolding byte_at write zeros small_space with_variables after_entry entered left empty_stacks stacks_of_one stacks_left
returns-clause-second_tag c = refl

pub returns-clause-below : goal.returns-clause-below
unfolding byte_at write zeros small_space with_variables after_entry entered left empty_stacks stacks_of_one stacks_left
returns-clause-below c = refl

pub returns-clause-full : goal.returns-clause-full
unfolding byte_at write zeros small_space with_variables after_entry entered left empty_stacks stacks_of_one stacks_left
returns-clause-full c = refl

pub returns-clause-left_tag : goal.returns-clause-left_tag
unfolding byte_at write zeros small_space with_variables after_entry entered left empty_stacks stacks_of_one stacks_left
returns-clause-left_tag c = refl

pub returns-clause-left_top : goal.returns-clause-left_top
unfolding byte_at write zeros small_space with_variables after_entry entered left empty_stacks stacks_of_one stacks_left
returns-clause-left_top c = refl

pub returns-clause-is_remembered : goal.returns-clause-is_remembered
unfolding byte_at write zeros small_space with_variables after_entry entered left empty_stacks stacks_of_one stacks_left
returns-clause-is_remembered c = refl
