-- Calls and returns (LLVM Language Reference, "'call' Instruction" and "'ret' Instruction"). The variables of a frame are
-- born when its function is entered and die when it returns. That a task has at most so many frames is this project's
-- choice.
use Rattle.std.specs.Prelude.{ℕ, zero, suc, ◌+◌, ◌-◌, ◌==◌, nat_le, if◌then◌else◌, List, [], ◌∷◌, ◌++◌, length, map, replicate, slice_get, Option, Some, None, option_and_then}
use Rattle.hw_base.specs.declared.endings.Trap.TheVariants.{TooDeep}
use Rattle.hw_base.specs.declared.numbers.TheConstants.{MOST_FRAMES}
use Rattle.hw_base.specs.declared.pointers.Site.{Site}
use Rattle.hw_tags.specs.TaskRuns.{Goes, Finishes, Ends, Stuck}
use Rattle.ir_core.specs.declared.ir_module.Function.{Function}
use Rattle.ir_core.specs.declared.ir_module.Inst.{Inst}
use Rattle.ir_core.specs.declared.ir_module.Module.{Module}
use Rattle.ir_meaning.specs.Values.{Value}
use Rattle.ir_meaning.specs.Births.{Stack, Birth, fresh_birth, after_death}
use Rattle.ir_meaning.specs.State.{SourceFrame, SourceShared, SourceReport, News, Born, Died, Exited, SourceSeen, SourceOutcome, telling}
use Rattle.ir_meaning.specs.Operands.{single, all_single, with_named, with_integer}
use Rattle.ir_meaning.specs.StepEnds.{chain_of, next_instruction, with_result, traps}

-- ---- the entry of a function

-- the births once a function is entered, the birth of its frame, and the news. A frame without variables is no birth
pub record Entry : Type 0 where
  pub births : List Birth
  pub birth : Option ℕ
  pub news : List News

-- the entry into a function with variables of these sizes in bytes; all their bytes are zero
abbrev pub entry_of : List Birth → (func task : ℕ) → List Site → (sizes : List ℕ) → Entry
entry_of births func task chain [] = record { births = births; birth = None; news = [] }
entry_of births func task chain (size ∷ sizes) =
    record {
      births = births ++ fresh_birth (Stack func) task chain (size ∷ sizes) ∷ [];
      birth = Some (length births);
      news = Born (length births) (Stack func) task chain (size ∷ sizes) ∷ [];
    }

-- the registers at the entry: the arguments, and the others aren't set
abbrev pub entry_registers : (count : ℕ) → List Value → List (Option Value)
entry_registers count arguments = map (λ value. Some value) arguments ++ replicate (count - length arguments) None

-- the frame at the entry of a function
abbrev pub entry_frame : Function → (func : ℕ) → List Value → (birth : Option ℕ) → List Site → SourceFrame
entry_frame f func arguments birth chain =
    record { func = func; inst = 0; registers = entry_registers (length f.regs) arguments; birth = birth; chain = chain }

-- on if a function gets as many arguments as it has parameters
unfoldable pub on_arguments : Function → List Value → SourceOutcome → SourceOutcome
on_arguments f arguments next = if length arguments == f.params then next else Stuck

-- ---- calls

-- the state once the task has entered a function: its frame stays at the call
abbrev pub entered : SourceSeen → Function → (func : ℕ) → List Value → Entry → SourceOutcome
entered s f func arguments entry =
    Goes
    (record s {
      shared = record s.shared { births = entry.births };
      frame = entry_frame f func arguments entry.birth (chain_of s);
      callers = s.frame ∷ s.callers;
    })
    (telling entry.news)

-- a call of a defined function; a task that has as many frames as it can have traps
unfoldable pub call_step : Module → SourceSeen → (func : ℕ) → List (Option Value) → SourceOutcome
call_step program s func arguments =
    with_named (slice_get program.functions func) (λ f. with_named (all_single arguments) (λ values. on_arguments f values (
    if nat_le MOST_FRAMES (length s.callers + 1)
    then traps s TooDeep
    else entered s f func values (entry_of s.shared.births func s.task (chain_of s) f.allocas))))

-- ---- returns

-- what all tasks share once a frame has ended
abbrev pub frame_ended : SourceSeen → Option ℕ → SourceShared
frame_ended s None = s.shared
frame_ended s (Some birth) = record s.shared { births = after_death s.shared.births birth s.task (chain_of s) }

abbrev pub death_news : SourceSeen → Option ℕ → List News
death_news s None = []
death_news s (Some birth) = Died birth s.task (chain_of s) ∷ []

-- what the end of the frame reports
abbrev pub end_report : SourceSeen → SourceReport
end_report s = telling (death_news s s.frame.birth)

-- the return of a task's last frame: that of task 0 ends the run with the value, that of another task finishes the task
abbrev pub last_return : SourceSeen → Option Value → (task : ℕ) → SourceOutcome
last_return s value zero = with_integer 32 value (λ n. Ends (frame_ended s s.frame.birth) [] (end_report s) (Exited n))
last_return s value (suc task) = Finishes (frame_ended s s.frame.birth) (end_report s)

-- the register that gets the result of the call at which a frame is
abbrev pub result_of : Option Inst → Option ℕ
result_of None = None
result_of (Some inst) = inst.result

abbrev pub instruction_in : Option Function → (inst : ℕ) → Option Inst
instruction_in None inst = None
instruction_in (Some f) inst = slice_get f.insts inst

abbrev pub call_result : Module → SourceFrame → Option ℕ
call_result program caller = result_of (instruction_in (slice_get program.functions caller.func) caller.inst)

-- a frame with a returned value, if there is one
abbrev pub with_returned : SourceFrame → Option ℕ → Option Value → SourceFrame
with_returned caller result None = caller
with_returned caller result (Some value) = record caller { registers = with_result caller.registers result value }

-- the value goes to the caller, which goes on after its call
abbrev pub returns_to : Module → SourceSeen → Option Value → List SourceFrame → SourceOutcome
returns_to program s value [] = last_return s value s.task
returns_to program s value (caller ∷ callers) =
    Goes
    (record s {
      shared = frame_ended s s.frame.birth;
      frame = next_instruction (with_returned caller (call_result program caller) value);
      callers = callers;
    })
    (end_report s)

-- a value that is returned is a number or a pointer
abbrev pub returned_value : Option Value → Option (Option Value)
returned_value None = Some None
returned_value (Some value) = option_and_then (λ v. Some (Some v)) (single value)

-- `ret`, of a value or of none
unfoldable pub ret_step : Module → SourceSeen → Option (Option Value) → SourceOutcome
ret_step program s returned =
    with_named (option_and_then returned_value returned) (λ value. returns_to program s value s.callers)
