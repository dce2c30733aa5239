-- The checks (Clang's HWASan design document, sections "Memory accesses" and "Short granules"). One that passes goes on with
-- the next instruction in the same step, and one that fails ends the run with a report. The check of one granule looks at
-- the granule of the address alone; that a free is checked by the block's tag, and strings byte by byte, is this project's
-- choice.
use Rattle.std.specs.Prelude.{ℕ, List, Option, Some, None, Result, Ok, Err}
use Rattle.hw_base.specs.AddressMap.{granule_of}
use Rattle.hw_base.specs.TaggedAddress.{address_of}
use Rattle.hw_base.specs.declared.accesses.Access.{Access}
use Rattle.hw_base.specs.declared.accesses.Access.TheVariants.{Read, Free}
use Rattle.hw_base.specs.declared.pointers.Site.{Site}
use Rattle.hw_shadow.specs.TagRule.{mismatch_in}
use Rattle.hw_shadow.specs.declared.mismatch.Mismatch.{Mismatch}
use Rattle.tbi_memory.specs.AddressSpace.{AddressSpace, check, last_byte}
use Rattle.tbi_memory.specs.MappedBytes.{byte_at}
use Rattle.tag_alloc.specs.declared.blocks.FreeMismatch.{FreeMismatch}
use Rattle.tag_alloc.specs.HeapBlocks.{free_mismatch}
use Rattle.ir_lib.specs.Strings.{checked_string}
use Rattle.ir_lib.specs.declared.string_fault.StringFault.{StringFault}
use Rattle.mi_code.specs.declared.operands.MiOperand.{MiOperand}
use Rattle.ir_machine.specs.declared.found.Found.TheVariants.{Memory, Block}
use Rattle.ir_machine.specs.State.{MachineSeen, MachineOutcome}
use Rattle.ir_machine.specs.Operands.{integer_in, pointer_in}
use Rattle.ir_machine.specs.StepEnds.{advanced, report_at}

-- what refuses an access in a granule of memory
abbrev pub granule_check : AddressSpace → (number size granule : ℕ) → Option Mismatch
granule_check memory number size granule =
    mismatch_in number size granule (byte_at memory.shadow granule) (last_byte memory.bytes granule)

-- what refuses an access in the granule of its address
abbrev pub one_check : AddressSpace → (number size : ℕ) → Option Mismatch
one_check memory number size = granule_check memory number size (granule_of (address_of number))

-- go on if nothing refuses the access
abbrev pub on_check : MachineSeen → Site → Access → (size number : ℕ) → (MachineSeen → MachineOutcome) → Option Mismatch → MachineOutcome
on_check s site access size number next None = next (advanced s)
on_check s site access size number next (Some found) = report_at s site access size number (Memory found)

unfoldable pub one_step : MachineSeen → Site → MiOperand → (size : ℕ) → Access → (MachineSeen → MachineOutcome) → MachineOutcome
one_step s site at size access next =
    on_check s site access size (pointer_in s at) next (one_check s.shared.memory (pointer_in s at) size)

unfoldable pub sized_step : MachineSeen → Site → (at size : MiOperand) → Access → (MachineSeen → MachineOutcome) → MachineOutcome
sized_step s site at size access next =
    on_check s site access (integer_in s 64 size) (pointer_in s at) next
    (check s.shared.memory (pointer_in s at) (integer_in s 64 size))

-- go on if each byte of the string passes
abbrev pub on_checked : MachineSeen → Site → (MachineSeen → MachineOutcome) → Result (List ℕ) StringFault → MachineOutcome
on_checked s site next (Ok bytes) = next (advanced s)
on_checked s site next (Err fault) = report_at s site Read 1 fault.at (Memory fault.found)

unfoldable pub str_step : MachineSeen → Site → (start : ℕ) → (MachineSeen → MachineOutcome) → MachineOutcome
str_step s site start next = on_checked s site next (checked_string s.shared.memory start)

-- go on if nothing refuses the free of a number
abbrev pub on_free : MachineSeen → Site → (number : ℕ) → MachineOutcome → Option FreeMismatch → MachineOutcome
on_free s site number go None = go
on_free s site number go (Some found) = report_at s site Free 0 number (Block found)

unfoldable pub free_check_step : MachineSeen → Site → (number : ℕ) → (MachineSeen → MachineOutcome) → MachineOutcome
free_check_step s site number next = on_free s site number (next (advanced s)) (free_mismatch s.shared.heap number)
