use Rattle.std.proofs.Common.{refl}
use Rattle.hw_shadow.specs.TagRule.{first_mismatch}
use Rattle.tbi_memory.specs.MappedBytes.{byte_at, write, read_bytes}
use Rattle.tbi_memory.specs.AddressSpace.{written, zeros}
use Rattle.tbi_memory.specs.SmallSpace.{small_space, space_of_seventeen}
use Rattle.tbi_memory.proofs.examples.refused_accesses.Goals as goal

pub returns-clause-constant : goal.returns-clause-constant
unfolding first_mismatch byte_at write read_bytes written zeros small_space space_of_seventeen
returns-clause-constant c = refl

pub returns-clause-nothing : goal.returns-clause-nothing
unfolding first_mismatch byte_at write read_bytes written zeros small_space space_of_seventeen
returns-clause-nothing c = refl

pub returns-clause-unmapped_after_a_constant : goal.returns-clause-unmapped_after_a_constant
unfolding first_mismatch byte_at write read_bytes written zeros small_space space_of_seventeen
returns-clause-unmapped_after_a_constant c = refl

pub returns-clause-read_past : goal.returns-clause-read_past
unfolding first_mismatch byte_at write read_bytes written zeros small_space space_of_seventeen
returns-clause-read_past c = refl

pub returns-clause-filled_past : goal.returns-clause-filled_past
unfolding first_mismatch byte_at write read_bytes written zeros small_space space_of_seventeen
returns-clause-filled_past c = refl
