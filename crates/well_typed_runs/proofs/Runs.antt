-- Runs of accepted modules are never stuck, and their registers hold values of their types.
use Rattle.std.proofs.Common.{ℕ, List, ◌∷◌, ◌∙◌, ap, subst}
use Rattle.hw_tags.specs.TaskRuns.{after_report, after_step}
use Rattle.ir_core.specs.declared.ir_module.Module.{Module}
use Rattle.ir_meaning.specs.Runs.{source_run_from, source_run}
use Rattle.ir_meaning.specs.Start.{source_start}
use Rattle.ir_meaning.specs.State.{SourceRun, SourceWorldStep}
use Rattle.well_typed_runs.specs.GoodWorlds.{IsAccepted, IsWithoutCalloc}
use Rattle.well_typed_runs.specs.Laws.{StaysSmall, RunsAreNeverStuck, StatesAreGood, RegistersAreTyped, WithoutCallocStaysSmall, LastRegistersAreTyped}
use Rattle.well_typed_runs.proofs.Starts.{start_good, start_small}
use Rattle.well_typed_runs.proofs.Worlds.{IsGoodRun, after_good, run_good, IsSmallRun, small_after, small_run, tasks_typed}

whole_run : (m : Module) (input : List ℕ) (turns : ℕ → ℕ) (bound : ℕ) → IsAccepted m → StaysSmall m input turns bound → IsGoodRun m (source_run m input turns bound)
unfolding source_run
whole_run m input turns bound accepted small =
    after_good m (source_run_from m input turns bound) (source_start m) (start_good m accepted) (λ w report is good.
    run_good m input turns bound w accepted good (λ n v reports below e.
    small n v (report ∷ reports) below
    (ap (λ (step : SourceWorldStep). after_step (source_run_from m input turns n) step) is ∙ ap (λ (run : SourceRun). after_report report run) e)))

pub runs_are_never_stuck : RunsAreNeverStuck
runs_are_never_stuck m input turns bound accepted small stuck = subst (IsGoodRun m) stuck (whole_run m input turns bound accepted small)

pub states_are_good : StatesAreGood
states_are_good m input turns bound w reports accepted small e = subst (IsGoodRun m) e (whole_run m input turns bound accepted small)

pub registers_are_typed : RegistersAreTyped
registers_are_typed m input turns bound w reports accepted small e = tasks_typed m w (states_are_good m input turns bound w reports accepted small e)

pub last_registers_are_typed : LastRegistersAreTyped
last_registers_are_typed m input turns bound w reports ending accepted small e = subst (IsGoodRun m) e (whole_run m input turns bound accepted small)

small_whole : (m : Module) (input : List ℕ) (turns : ℕ → ℕ) (bound : ℕ) → IsAccepted m → IsWithoutCalloc m → IsSmallRun m (source_run m input turns bound)
unfolding source_run
small_whole m input turns bound accepted without =
    small_after m (source_run_from m input turns bound) (source_start m) (start_good m accepted) (λ w report is good.
    small_run m input turns bound w accepted without good (start_small m w report accepted is))

pub without_calloc : WithoutCallocStaysSmall
without_calloc m input turns bound accepted without n w reports below e = (subst (IsSmallRun m) e (small_whole m input turns n accepted without)).1
