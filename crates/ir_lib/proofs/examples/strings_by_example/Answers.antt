use Rattle.std.proofs.Common.{refl}
use Rattle.hw_base.specs.Bytes.{byte_order}
use Rattle.hw_shadow.specs.TagRule.{first_mismatch}
use Rattle.tbi_memory.specs.AddressSpace.{zeros}
use Rattle.tbi_memory.specs.MappedBytes.{byte_at, write, read_bytes}
use Rattle.tbi_memory.specs.SmallSpace.{small_space}
use Rattle.ir_lib.specs.Strings.{scan_bound, string_from, checked_from}
use Rattle.ir_lib.specs.SmallStrings.{space_of_string, space_of_open_string}
use Rattle.ir_lib.proofs.examples.strings_by_example.Goals as goal

pub returns-clause-read : goal.returns-clause-read
unfolding first_mismatch byte_at write read_bytes zeros small_space byte_order scan_bound string_from checked_from space_of_string space_of_open_string
returns-clause-read c = refl

pub returns-clause-passes : goal.returns-clause-passes
unfolding first_mismatch byte_at write read_bytes zeros small_space byte_order scan_bound string_from checked_from space_of_string space_of_open_string
returns-clause-passes c = refl

pub returns-clause-read_past : goal.returns-clause-read_past
unfolding first_mismatch byte_at write read_bytes zeros small_space byte_order scan_bound string_from checked_from space_of_string space_of_open_string
returns-clause-read_past c = refl

pub returns-clause-refused : goal.returns-clause-refused
unfolding first_mismatch byte_at write read_bytes zeros small_space byte_order scan_bound string_from checked_from space_of_string space_of_open_string
returns-clause-refused c = refl

pub returns-clause-unmapped : goal.returns-clause-unmapped
unfolding first_mismatch byte_at write read_bytes zeros small_space byte_order scan_bound string_from checked_from space_of_string space_of_open_string
returns-clause-unmapped c = refl
