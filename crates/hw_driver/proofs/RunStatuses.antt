-- The status of a text that comes to a run says how the run ended.
use Rattle.std.proofs.Common.{◌≡◌, ℕ, [], sym, subst}
use Rattle.std.specs.Prelude.{⊤}
use Rattle.hw_base.specs.declared.endings.Status.{Status}
use Rattle.hw_base.specs.declared.endings.Status.TheVariants as status
use Rattle.hw_tags.specs.TaskRuns.{Spent, Ended, IsStuck}
use Rattle.ir_core.specs.declared.ir_module.Module.{Module}
use Rattle.ir_machine.specs.Runs.{run_of}
use Rattle.ir_machine.specs.State.{MachineRun, Exited, Trapped, Reported, IsFull}
use Rattle.hw_run.specs.RunEnds.{IsGathered}
use Rattle.hw_run.specs.declared.ends.Gathered.{Gathered}
use Rattle.hw_driver.specs.Line.{Line}
use Rattle.hw_driver.specs.Answer.{Decision, FileRead, RunsModule, gathered_of}

-- a status that says how a run ended
abbrev pub IsRunStatus : Status → Type 0
IsRunStatus status.Ended = ⊤
IsRunStatus status.Reported = ⊤
IsRunStatus status.Trapped = ⊤
IsRunStatus status.Spent = ⊤
IsRunStatus status.Full = ⊤
IsRunStatus other = ⊥

is_status : (s t : Status) → s ≡ t → IsRunStatus t → IsRunStatus s
is_status s t e h = subst IsRunStatus (sym e) h

gathered_status : (m : Module) (bound : ℕ) (r : MachineRun) (g : Gathered) → IsGathered m bound r g → IsRunStatus g.status
gathered_status m bound (Spent w pieces) g h = is_status g.status status.Spent h.status_is tt
gathered_status m bound (Ended w pieces (Exited n)) g h = is_status g.status status.Ended h.status_is tt
gathered_status m bound (Ended w pieces (Trapped trap task chain)) g h = is_status g.status status.Trapped h.status_is tt
gathered_status m bound (Ended w pieces (Reported raw)) g h = is_status g.status status.Reported h.status_is tt
gathered_status m bound (Ended w pieces (IsFull full)) g h = is_status g.status status.Full h.status_is tt
gathered_status m bound IsStuck g h = absurd h

pub runs_status : (l : Line) (read : FileRead) (d : Decision) → RunsModule l read d → IsRunStatus d.status
runs_status l read d r = gathered_status r.m r.run.options.steps (run_of r.m r.run.options []) (gathered_of d) (r.run.decision [])
