-- The steps that enter and leave functions (LLVM Language Reference, "'call' Instruction" and "'ret' Instruction"). While a
-- function runs, its caller's frame stays at the call, and the result goes where that call says. The depth of calls is
-- limited; that is this project's choice.
use Rattle.std.specs.Prelude.{ℕ, zero, suc, ◌+◌, ◌%◌, ◌^◌, nat_le, if◌then◌else◌, Bool, true, false, List, [], ◌∷◌, length, replicate, slice_get, slice_set, unwrap_or, Option, Some, None, Result, Ok, Err}
use Rattle.hw_base.specs.declared.endings.Full.{Full}
use Rattle.hw_base.specs.declared.endings.Trap.TheVariants.{TooDeep}
use Rattle.hw_base.specs.declared.pointers.Site.{Site}
use Rattle.hw_tags.specs.TaskRuns.{Goes, Finishes, Ends}
use Rattle.ir_core.specs.declared.ir_module.Function.{Function}
use Rattle.ir_core.specs.declared.ir_module.Module.{Module}
use Rattle.mi_code.specs.declared.code_functions.CodeFunction.{CodeFunction}
use Rattle.mi_code.specs.declared.code_functions.Mi.{Mi}
use Rattle.mi_code.specs.declared.code_functions.Mark.{Mark}
use Rattle.mi_code.specs.declared.code_functions.Mark.TheVariants.{Entry, Added, Source}
use Rattle.mi_code.specs.declared.operands.MiOperand.{MiOperand}
use Rattle.mi_code.specs.declared.operations.MiOp.{MiOp}
use Rattle.mi_code.specs.declared.operations.MiOp.TheVariants.{Call}
use Rattle.mi_code.specs.MachineOperands.{machine_register}
use Rattle.ir_tasks.specs.Frames.{Frame, with_register}
use Rattle.ir_tasks.specs.Frames as frames
use Rattle.stack_tags.specs.FrameSteps.{StacksAfter, entered, left}
use Rattle.ir_machine.specs.State.{MachineSetting, MachineShared, MachineSeen, MachineOutcome, Exited, IsFull}
use Rattle.ir_machine.specs.Operands.{number_in, numbers_in}
use Rattle.ir_machine.specs.StepEnds.{advanced, chain_at, chain_known, ends, traps}

-- ---- code

-- the code of a function; one that isn't there has no instruction
abbrev pub no_code : CodeFunction
no_code = record { registers = 0; params = 0; insts = []; starts = [] }

abbrev pub code_by : Option CodeFunction → CodeFunction
code_by None = no_code
code_by (Some code) = code

abbrev pub code_at : List CodeFunction → ℕ → CodeFunction
code_at code func = code_by (slice_get code func)

-- the instruction where a frame is
abbrev pub instruction_at : List CodeFunction → Frame → Option Mi
instruction_at code frame = slice_get (code_at code frame.func).insts frame.place

-- the sizes of a function's variables
abbrev pub variables_by : Option Function → List ℕ
variables_by None = []
variables_by (Some f) = f.allocas

abbrev pub variables_of : Module → ℕ → List ℕ
variables_of program func = variables_by (slice_get program.functions func)

-- ---- entries

-- registers with the arguments in the parameters' registers, the first of which has number k among the parameters
unfoldable pub with_arguments : List ℕ → (k : ℕ) → List ℕ → List ℕ
with_arguments registers k [] = registers
with_arguments registers k (n ∷ numbers) = with_arguments (slice_set registers (machine_register k) n) (suc k) numbers

-- a new frame at a place of a function's code: registers are 0 but for the arguments
abbrev pub frame_for : List CodeFunction → (func place : ℕ) → List ℕ → (chain : ℕ) → Frame
frame_for code func place numbers chain =
    record {
      func = func;
      registers = with_arguments (replicate (code_at code func).registers 0) 0 numbers;
      place = place;
      chain = chain;
    }

-- the mark of an entry
abbrev pub is_entry : Mark → Bool
is_entry Entry = true
is_entry (Added site) = false
is_entry (Source site) = false

-- a function's code begins with an entry
abbrev pub begins_with_entry : List Mi → Bool
begins_with_entry [] = false
begins_with_entry (mi ∷ insts) = is_entry mi.mark

-- what all tasks share after an entry, and the place in the code after it
pub record AfterEntry : Type 0 where
  pub shared : MachineShared
  pub place : ℕ

-- the frame's variables have their places, are zero and have tags: one birth, and one tag word drawn
abbrev pub with_variables : MachineShared → StacksAfter → MachineShared
with_variables shared after =
    record shared {
      memory = after.space;
      stacks = after.stacks;
      births = shared.births + 1;
      drawn = shared.drawn + 1;
    }

abbrev pub after_variables : MachineShared → Result StacksAfter Full → Result AfterEntry Full
after_variables shared (Err full) = Err full
after_variables shared (Ok after) = Ok (record { shared = with_variables shared after; place = 1 })

-- the entry of a function with variables, for a task and a chain; or the stack is full
unfoldable pub enter_step : MachineSetting → (task func chain : ℕ) → MachineShared → Result AfterEntry Full
enter_step setting task func chain shared =
    after_variables shared
    (entered shared.stacks shared.memory task func (setting.word shared.drawn) (variables_of setting.program func) shared.births chain)

-- the entry that a function's code begins with, if it does
abbrev pub entry_if : Bool → MachineSetting → (task func chain : ℕ) → MachineShared → Result AfterEntry Full
entry_if false setting task func chain shared = Ok (record { shared = shared; place = 0 })
entry_if true setting task func chain shared = enter_step setting task func chain shared

-- a task begins a function: at the start of `main`, at a call, and at the start of a task
abbrev pub entry_of : MachineSetting → (task func chain : ℕ) → MachineShared → Result AfterEntry Full
entry_of setting task func chain shared =
    entry_if (begins_with_entry (code_at setting.code func).insts) setting task func chain shared

-- ---- calls

-- the new frame runs, and the one before becomes its caller
abbrev pub on_entry : MachineSetting → MachineSeen → (func : ℕ) → List ℕ → (chain : ℕ) → Result AfterEntry Full → MachineOutcome
on_entry setting s func numbers chain (Err full) = ends s (IsFull full)
on_entry setting s func numbers chain (Ok after) =
    Goes
    (record s {
      shared = after.shared;
      frame = frame_for setting.code func after.place numbers chain;
      callers = s.frame ∷ s.callers;
    })
    []

-- a call of a function, whose frame has the call's chain
abbrev pub entered_call : MachineSetting → MachineSeen → (func : ℕ) → List ℕ → (chain : ℕ) → MachineOutcome
entered_call setting s func numbers chain = on_entry setting s func numbers chain (entry_of setting s.task func chain s.shared)

unfoldable pub call_step : MachineSetting → MachineSeen → Site → (func : ℕ) → List MiOperand → MachineOutcome
call_step setting s site func args =
    if nat_le setting.places.most_frames (suc (length s.callers)) then traps s site TooDeep
    else entered_call setting (chain_known s site) func (numbers_in s args) (chain_at s site)

-- ---- returns

-- the stacks and memory after a frame was left
abbrev pub stacks_set : MachineSeen → StacksAfter → MachineSeen
stacks_set s after = record s { shared = record s.shared { stacks = after.stacks; memory = after.space } }

-- The end of a frame with variables: their memory gets the tag 0. The death has the return's site and the frame's chain.
unfoldable pub leave_step : MachineSeen → Site → (MachineSeen → MachineOutcome) → MachineOutcome
leave_step s site next =
    next (advanced (stacks_set (chain_known s site) (left s.shared.stacks s.shared.memory s.task (chain_at s site))))

-- where the result of a call goes
abbrev pub result_of : MiOp → Option ℕ
result_of (Call func to args) = to
result_of other = None

abbrev pub call_register : Option Mi → Option ℕ
call_register None = None
call_register (Some mi) = result_of mi.op

-- a returned number goes to the call's register, if there are both
abbrev pub with_returned : Frame → Option ℕ → Option ℕ → Frame
with_returned frame (Some to) (Some n) = with_register frame to n
with_returned frame (Some to) None = frame
with_returned frame None value = frame

-- a caller goes on after the call where it is
abbrev pub returned_to : List CodeFunction → Frame → Option ℕ → Frame
returned_to code caller value = frames.advanced (with_returned caller (call_register (instruction_at code caller)) value)

-- the number that is returned
abbrev pub returned_number : MachineSeen → Option MiOperand → Option ℕ
returned_number s None = None
returned_number s (Some value) = Some (number_in s value)

-- the last frame of task 0 ends the run, and that of another task finishes the task
abbrev pub last_left : (task : ℕ) → MachineShared → (n : ℕ) → MachineOutcome
last_left zero shared n = Ends shared [] [] (Exited (n % 2 ^ 32))
last_left (suc task) shared n = Finishes shared []

-- a frame has ended: it was the last one, or its caller goes on
abbrev pub frame_left : MachineSetting → MachineSeen → List Frame → Option ℕ → MachineOutcome
frame_left setting s [] value = last_left s.task s.shared (unwrap_or value 0)
frame_left setting s (caller ∷ callers) value =
    Goes (record s { frame = returned_to setting.code caller value; callers = callers }) []

unfoldable pub ret_step : MachineSetting → MachineSeen → Option MiOperand → MachineOutcome
ret_step setting s value = frame_left setting s s.callers (returned_number s value)
