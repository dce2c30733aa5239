-- Runs of instrumented code. A task is chosen for each step by a turn word; one step is one Source instruction with its Added
-- ones and with the entry that it causes. This project's choice.
use Rattle.std.specs.Prelude.{ℕ, Bool, true, false, not, ◌&&◌, List, [], ◌∷◌, slice_get, Option, Some, None}
use Rattle.hw_base.specs.AddressMap.{program_map}
use Rattle.hw_tags.specs.declared.options.Options.{Options}
use Rattle.hw_tags.specs.InputState.{next_input}
use Rattle.hw_tags.specs.TaskRuns.{next_task, run_from, after_step}
use Rattle.hw_tags.specs.Word.{word}
use Rattle.ir_core.specs.declared.ir_module.Module.{Module}
use Rattle.ir_core.specs.declared.lib_functions.Lib.{Lib}
use Rattle.ir_core.specs.declared.lib_functions.Lib.TheVariants.{Getchar}
use Rattle.mi_code.specs.declared.code_functions.CodeFunction.{CodeFunction}
use Rattle.mi_code.specs.declared.code_functions.Mi.{Mi}
use Rattle.mi_code.specs.declared.operations.MiOp.{MiOp}
use Rattle.mi_code.specs.declared.operations.MiOp.TheVariants.{CallLib}
use Rattle.mi_code.specs.Instrumentation.{instrumented}
use Rattle.ir_tasks.specs.Frames.{Frame}
use Rattle.ir_machine.specs.State.{MachineSetting, MachineSeen, MachineOutcome, MachineWorld, MachineRun}
use Rattle.ir_machine.specs.CallSteps.{instruction_at}
use Rattle.ir_machine.specs.InstructionStep.{machine_step}
use Rattle.ir_machine.specs.Start.{machine_start}

-- a task's step, with the next byte of the setting's input
abbrev pub step_in : MachineSetting → MachineSeen → MachineOutcome
step_in setting s = machine_step setting (next_input setting.input s.shared.input) s

-- the run of a setting, by its turn words and with a bound on its steps
unfoldable pub machine_run : MachineSetting → (turns : ℕ → ℕ) → (bound : ℕ) → MachineRun
machine_run setting turns bound = after_step (run_from (step_in setting) [] turns bound) (machine_start setting)

-- what a run is given by a module, options and an input: the program's map with the heap of the options, the module's
-- instrumented code, and the tag words
abbrev pub setting_of : Module → Options → List ℕ → MachineSetting
setting_of program options input =
    record {
      places = program_map options.heap;
      program = program;
      code = instrumented program;
      word = word options.tags;
      ring = options.ring;
      input = input;
    }

-- the run of a module under options, with an input
abbrev pub run_of : Module → Options → List ℕ → MachineRun
run_of program options input = machine_run (setting_of program options input) (word options.turns) options.steps

-- ---- waiting for input

abbrev pub is_getchar_function : Lib → Bool
is_getchar_function Getchar = true
is_getchar_function other = false

abbrev pub is_getchar_operation : MiOp → Bool
is_getchar_operation (CallLib function to args start) = is_getchar_function function
is_getchar_operation other = false

abbrev pub is_getchar : Option Mi → Bool
is_getchar None = false
is_getchar (Some mi) = is_getchar_operation mi.op

-- a task with these frames is at a call of `getchar`, before which no check is added
abbrev pub is_at_getchar : List CodeFunction → Option (List Frame) → Bool
is_at_getchar code None = false
is_at_getchar code (Some []) = false
is_at_getchar code (Some (frame ∷ callers)) = is_getchar (instruction_at code frame)

-- the next step takes a byte of input, or meets its end for the first time
abbrev pub waits_for_input : MachineSetting → (turns : ℕ → ℕ) → MachineWorld → Bool
waits_for_input setting turns w =
    is_at_getchar setting.code (slice_get w.tasks (next_task turns w)) && not w.shared.input.at_end
