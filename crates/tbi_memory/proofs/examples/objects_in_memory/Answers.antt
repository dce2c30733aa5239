use Rattle.std.proofs.Common.{refl}
use Rattle.hw_shadow.specs.TagRule.{first_mismatch}
use Rattle.tbi_memory.specs.MappedBytes.{byte_at, write, read_bytes}
use Rattle.tbi_memory.specs.AddressSpace.{written, zeros}
use Rattle.tbi_memory.specs.SmallSpace.{small_space, space_of_seventeen}
use Rattle.tbi_memory.proofs.examples.objects_in_memory.Goals as goal

pub returns-clause-first_tag : goal.returns-clause-first_tag
unfolding first_mismatch byte_at write read_bytes written zeros small_space space_of_seventeen
returns-clause-first_tag c = refl

pub returns-clause-second_tag : goal.returns-clause-second_tag
unfolding first_mismatch byte_at write read_bytes written zeros small_space space_of_seventeen
returns-clause-second_tag c = refl

pub returns-clause-third_tag : goal.returns-clause-third_tag
unfolding first_mismatch byte_at write read_bytes written zeros small_space space_of_seventeen
returns-clause-third_tag c = refl

pub returns-clause-bytes : goal.returns-clause-bytes
unfolding first_mismatch byte_at write read_bytes written zeros small_space space_of_seventeen
returns-clause-bytes c = refl

pub returns-clause-last_byte : goal.returns-clause-last_byte
unfolding first_mismatch byte_at write read_bytes written zeros small_space space_of_seventeen
returns-clause-last_byte c = refl

pub returns-clause-within : goal.returns-clause-within
unfolding first_mismatch byte_at write read_bytes written zeros small_space space_of_seventeen
returns-clause-within c = refl

pub returns-clause-past_the_end : goal.returns-clause-past_the_end
unfolding first_mismatch byte_at write read_bytes written zeros small_space space_of_seventeen
returns-clause-past_the_end c = refl
