-- The step of a machine instruction, one line an instruction, and the step of a task: the Added instructions before a Source
-- instruction run in its step, one after the other. This project's choice.
use Rattle.std.specs.Prelude.{ℕ, zero, suc, length, Option, Some, None}
use Rattle.hw_base.specs.declared.endings.Input.{Input}
use Rattle.hw_base.specs.declared.pointers.Site.{Site}
use Rattle.hw_tags.specs.TaskRuns.{Stuck}
use Rattle.mi_code.specs.declared.code_functions.Mi.{Mi}
use Rattle.mi_code.specs.declared.code_functions.Mark.{Mark}
use Rattle.mi_code.specs.declared.code_functions.Mark.TheVariants.{Entry, Added, Source}
use Rattle.mi_code.specs.declared.operations.MiOp.{MiOp}
use Rattle.mi_code.specs.declared.operations.MiOp.TheVariants as machine
use Rattle.ir_machine.specs.State.{MachineSetting, MachineSeen, MachineOutcome}
use Rattle.ir_machine.specs.Operands.{pointer_in}
use Rattle.ir_machine.specs.StepEnds.{goes_on}
use Rattle.ir_machine.specs.AddressSteps.{alloca_step, gep_step}
use Rattle.ir_machine.specs.ArithmeticSteps.{binary_step, icmp_step, cast_step, bits_step, overflow_step, select_step, freeze_step, extract_step}
use Rattle.ir_machine.specs.BranchSteps.{br_step, br_if_step, switch_step, unreachable_step}
use Rattle.ir_machine.specs.CallSteps.{code_at, instruction_at, leave_step, call_step, ret_step}
use Rattle.ir_machine.specs.CheckSteps.{one_step, sized_step, str_step, free_check_step}
use Rattle.ir_machine.specs.LibraryCalls.{library_step}
use Rattle.ir_machine.specs.MemorySteps.{load_step, store_step, rmw_step, cmpxchg_step}

-- The step of an instruction at a site. Those of the tag work go on with `next`, in the same step; all others end it. An
-- entry is run by what enters its function, and never by itself.
abbrev pub operation_step : MachineSetting → Input → Site → (MachineSeen → MachineOutcome) → MachineSeen → MiOp → MachineOutcome
operation_step setting given site next s machine.Enter = Stuck
operation_step setting given site next s machine.Leave = leave_step s site next
operation_step setting given site next s (machine.One at size access) = one_step s site at size access next
operation_step setting given site next s (machine.Sized at size access) = sized_step s site at size access next
operation_step setting given site next s (machine.Str at) = str_step s site (pointer_in s at) next
operation_step setting given site next s (machine.FreeCheck at) = free_check_step s site (pointer_in s at) next
operation_step setting given site next s (machine.Binary op width to a b) = binary_step s site op width to a b
operation_step setting given site next s (machine.Icmp pred width to a b) = icmp_step s pred width to a b
operation_step setting given site next s (machine.Cast op from width to a) = cast_step s op from width to a
operation_step setting given site next s (machine.Bits op width to args) = bits_step s op width to args
operation_step setting given site next s (machine.Overflow op width to a b) = overflow_step s op width to a b
operation_step setting given site next s (machine.Select to cond a b) = select_step s to cond a b
operation_step setting given site next s (machine.Freeze to a) = freeze_step s to a
operation_step setting given site next s (machine.Alloca to variable) = alloca_step s to variable
operation_step setting given site next s (machine.Gep to base indices) = gep_step s to base indices
operation_step setting given site next s (machine.Load width to at) = load_step s site width to at
operation_step setting given site next s (machine.Store width value at) = store_step s site width value at
operation_step setting given site next s (machine.Rmw op width to at value) = rmw_step s site op width to at value
operation_step setting given site next s (machine.CmpXchg width to at expected new) = cmpxchg_step s site width to at expected new
operation_step setting given site next s (machine.Part to pair part) = extract_step s to pair part
operation_step setting given site next s machine.Nop = goes_on s
operation_step setting given site next s (machine.Jump edge) = br_step s edge
operation_step setting given site next s (machine.Branch cond first second) = br_if_step s cond first second
operation_step setting given site next s (machine.Switch width on other cases) = switch_step s width on other cases
operation_step setting given site next s (machine.Call func to args) = call_step setting s site func args
operation_step setting given site next s (machine.CallLib function to args start) = library_step setting given s site function to args start
operation_step setting given site next s (machine.Ret value) = ret_step setting s value
operation_step setting given site next s machine.Unreachable = unreachable_step s site

-- the step of a marked instruction; an entry isn't met
abbrev pub marked_step : MachineSetting → Input → (MachineSeen → MachineOutcome) → MachineSeen → Mark → MiOp → MachineOutcome
marked_step setting given next s Entry op = Stuck
marked_step setting given next s (Added site) op = operation_step setting given site next s op
marked_step setting given next s (Source site) op = operation_step setting given site next s op

-- the step of the instruction at a place, if there is one
abbrev pub instruction_step : MachineSetting → Input → (MachineSeen → MachineOutcome) → MachineSeen → Option Mi → MachineOutcome
instruction_step setting given next s None = Stuck
instruction_step setting given next s (Some mi) = marked_step setting given next s mi.mark mi.op

-- at most so many instructions of a step
unfoldable pub steps_within : MachineSetting → Input → (fuel : ℕ) → MachineSeen → MachineOutcome
steps_within setting given zero s = Stuck
steps_within setting given (suc fuel) s =
    instruction_step setting given (steps_within setting given fuel) s (instruction_at setting.code s.frame)

-- A whole step of a task, by what the input gives next. Added instructions go forward, so that the length of the code is
-- enough.
unfoldable pub machine_step : MachineSetting → Input → MachineSeen → MachineOutcome
machine_step setting given s = steps_within setting given (length (code_at setting.code s.frame.func).insts) s
