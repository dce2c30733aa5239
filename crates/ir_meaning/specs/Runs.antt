-- The run of all tasks of the source program, from its start, under an input, turn words and a bound on steps. One step is
-- one instruction of one task. This project's choice.
use Rattle.std.specs.Prelude.{ℕ, Bool, true, false, ◌&&◌, not, List, [], ◌∷◌, slice_get, Option, Some, None}
use Rattle.std.specs.List.{flat_map}
use Rattle.hw_tags.specs.declared.options.Options.{Options}
use Rattle.hw_tags.specs.InputState.{next_input}
use Rattle.hw_tags.specs.TaskRuns.{Spent, Ended, IsStuck, next_task, world_step, after_step, run_from}
use Rattle.hw_tags.specs.Word.{word}
use Rattle.ir_core.specs.declared.ir_module.Module.{Module}
use Rattle.ir_core.specs.declared.lib_functions.Lib.{Lib}
use Rattle.ir_core.specs.declared.lib_functions.Lib.TheVariants.{Getchar}
use Rattle.ir_core.specs.declared.ir_module.Declare.{Declare}
use Rattle.ir_core.specs.declared.ir_module.Inst.{Inst}
use Rattle.ir_core.specs.declared.operations.Op.{Op}
use Rattle.ir_core.specs.declared.operations.Op.TheVariants.{CallLib}
use Rattle.ir_meaning.specs.State.{SourceFrame, SourceReport, SourceSeen, SourceOutcome, SourceWorld, SourceWorldStep, SourceRun, nothing_happened}
use Rattle.ir_meaning.specs.CallSteps.{instruction_in}
use Rattle.ir_meaning.specs.InstructionStep.{source_step}
use Rattle.ir_meaning.specs.Start.{source_start}

-- a step of a task under an input
abbrev pub step_under : Module → (input : List ℕ) → SourceSeen → SourceOutcome
step_under program input s = source_step program (next_input input s.shared.input) s

-- one step of the run
abbrev pub source_world_step : Module → (input : List ℕ) → (turns : ℕ → ℕ) → SourceWorld → SourceWorldStep
source_world_step program input turns w = world_step (step_under program input) nothing_happened turns w

-- the run of at most so many steps from a state
abbrev pub source_run_from : Module → (input : List ℕ) → (turns : ℕ → ℕ) → (bound : ℕ) → SourceWorld → SourceRun
source_run_from program input turns bound w = run_from (step_under program input) nothing_happened turns bound w

-- The run of at most so many steps, from the start.
unfoldable pub source_run : Module → (input : List ℕ) → (turns : ℕ → ℕ) → (bound : ℕ) → SourceRun
source_run program input turns bound = after_step (source_run_from program input turns bound) (source_start program)

-- the run of a module under options
abbrev pub source_run_of : Module → Options → (input : List ℕ) → SourceRun
source_run_of program options input = source_run program input (word options.turns) options.steps

-- ---- what is said of a run

-- what a run printed
abbrev pub printed_by : SourceRun → List ℕ
printed_by (Spent w reports) = flat_map (λ (report : SourceReport). report.printed) reports
printed_by (Ended w reports ending) = flat_map (λ (report : SourceReport). report.printed) reports
printed_by IsStuck = []

-- ---- waiting for input

abbrev pub is_getchar : Lib → Bool
is_getchar Getchar = true
is_getchar other = false

abbrev pub calls_getchar : Option Declare → Bool
calls_getchar None = false
calls_getchar (Some declare) = is_getchar declare.lib

abbrev pub takes_input : Module → Op → Bool
takes_input program (CallLib declare ty args start) = calls_getchar (slice_get program.declares declare)
takes_input program other = false

abbrev pub inst_takes_input : Module → Option Inst → Bool
inst_takes_input program None = false
inst_takes_input program (Some inst) = takes_input program inst.op

abbrev pub task_takes_input : Module → Option (List SourceFrame) → Bool
task_takes_input program None = false
task_takes_input program (Some []) = false
task_takes_input program (Some (frame ∷ callers)) =
    inst_takes_input program (instruction_in (slice_get program.functions frame.func) frame.inst)

-- the task that makes the next step is at `getchar`, and the end of the input wasn't met
abbrev pub waits_for_input : Module → (turns : ℕ → ℕ) → SourceWorld → Bool
waits_for_input program turns w =
    not w.shared.input.at_end && task_takes_input program (slice_get w.tasks (next_task turns w))
