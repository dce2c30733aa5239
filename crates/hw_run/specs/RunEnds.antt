-- What a run's loop and the whole job return, by the definition's run. This project's choice.
use Rattle.std.specs.Prelude.{◌≡◌, ℕ, List, ◌++◌}
use Rattle.std.specs.Int.{w32, cast_signed}
use Rattle.hw_base.specs.declared.endings.Status.{Status}
use Rattle.hw_base.specs.declared.endings.Status.TheVariants as status
use Rattle.hw_tags.specs.TaskRuns.{Spent, Ended, IsStuck}
use Rattle.dbg_sites.specs.ChainTable.{chain_of}
use Rattle.ir_core.specs.declared.ir_module.Module.{Module}
use Rattle.ir_machine.specs.MachineStates.{MachineState, world_of}
use Rattle.ir_machine.specs.Shown.{output_of}
use Rattle.ir_machine.specs.State.{MachineWorld, MachineEnding, MachineRun, Exited, Trapped, Reported, IsFull}
use Rattle.hw_report.specs.ReportText.{report_lines}
use Rattle.hw_report.specs.Sites.{chain_lines}
use Rattle.hw_run.specs.Closing.{ended_line, trapped_line, spent_line, full_line}
use Rattle.hw_run.specs.declared.ends.Gathered.{Gathered}
use Rattle.hw_run.specs.declared.ends.RunEnd.{RunEnd}
use Rattle.hw_run.specs.declared.ends.RunEnd.TheVariants as run_end
use Rattle.hw_run.specs.declared.ends.StepsMade.{StepsMade}

-- ---- the loop

-- how the run ended, and what the loop returned
abbrev pub IsRunEnd : MachineEnding → RunEnd → Type 0
IsRunEnd (Exited n) (run_end.Exit value) = value ≡ cast_signed w32 n
IsRunEnd (Trapped trap task chain) (run_end.Trap t k number) = (t ≡ trap) × (k ≡ task) × (number ≡ chain)
IsRunEnd (Reported raw) (run_end.Mismatch found) = found ≡ raw
IsRunEnd (IsFull full) (run_end.Full found) = found ≡ full
IsRunEnd ending other = ⊥

-- all steps were made: the bytes, and the machine that is left
pub record IsSpentRun (w : MachineWorld) (pieces : List (List ℕ)) (made : StepsMade) (m : MachineState) : Type 0 where
  pub end : made.end ≡ run_end.Spent
  pub output : made.output ≡ output_of pieces
  pub world : w ≡ world_of m

-- the run ended: the end, the bytes, the number of the step, and what the tasks shared then
pub record IsEndedRun (w : MachineWorld) (pieces : List (List ℕ)) (ending : MachineEnding) (made : StepsMade) (m : MachineState) : Type 0 where
  pub end : IsRunEnd ending made.end
  pub output : made.output ≡ output_of pieces
  pub steps : w.steps ≡ m.steps
  pub shared : w.shared ≡ m.run.seen.shared

-- what the loop returned, and the machine after it. Of a stuck run nothing is said.
abbrev pub IsRun : MachineRun → StepsMade → MachineState → Type 0
IsRun (Spent w pieces) made m = IsSpentRun w pieces made m
IsRun (Ended w pieces ending) made m = IsEndedRun w pieces ending made m
IsRun IsStuck made m = Unit {0}

-- ---- the job

-- what a run shows: these bytes, this status, and this closing text
pub record Shows (output : List ℕ) (of_end : Status) (text : List ℕ) (gathered : Gathered) : Type 0 where
  pub output_is : gathered.output ≡ output
  pub status_is : gathered.status ≡ of_end
  pub text_is : gathered.text ≡ text

-- what a run shows that ended in a world
abbrev pub ShowsEnding : Module → MachineWorld → (output : List ℕ) → MachineEnding → Gathered → Type 0
ShowsEnding m w output (Exited n) gathered = Shows output status.Ended (ended_line (cast_signed w32 n) w.steps) gathered
ShowsEnding m w output (Trapped trap task chain) gathered =
    Shows output status.Trapped (trapped_line trap task w.steps ++ chain_lines m (chain_of w.shared.chains chain)) gathered
ShowsEnding m w output (Reported raw) gathered = Shows output status.Reported (report_lines m w.shared.chains raw) gathered
ShowsEnding m w output (IsFull full) gathered = Shows output status.Full (full_line full w.steps) gathered

-- what the job returns of a run under a bound, which is never stuck
abbrev pub IsGathered : Module → (bound : ℕ) → MachineRun → Gathered → Type 0
IsGathered m bound (Spent w pieces) gathered = Shows (output_of pieces) status.Spent (spent_line bound) gathered
IsGathered m bound (Ended w pieces ending) gathered = ShowsEnding m w (output_of pieces) ending gathered
IsGathered m bound IsStuck gathered = ⊥
