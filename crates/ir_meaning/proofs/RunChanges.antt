-- What steps of the run, and runs, do to births.
use Rattle.std.proofs.Common.{◌≡◌, ℕ, zero, suc, List, [], ◌∷◌, Option, Some, None, subst, slice_get}
use Rattle.hw_tags.specs.TaskRuns.{Goes, Stays, Starts, Finishes, Ends, Stuck, Next, Last, NoStep, Spent, Ended, IsStuck, lifted, task_step, counted, next_task, world_step, after_report, after_step, run_from}
use Rattle.ir_core.specs.declared.ir_module.Module.{Module}
use Rattle.ir_meaning.specs.Births.{Birth}
use Rattle.ir_meaning.specs.BirthChanges.{BirthsChange, same, both, all_news}
use Rattle.ir_meaning.specs.State.{SourceFrame, SourceReport, SourceEnding, SourceWorld, SourceWorldStep, SourceOutcome, SourceRun, nothing_happened}
use Rattle.ir_meaning.specs.Runs.{step_under, source_world_step, source_run_from}
use Rattle.ir_meaning.proofs.ChangeEndings.{Changes}
use Rattle.ir_meaning.proofs.StepChanges.{source_step-changes}

-- births change to those after a step of the run as it reports
abbrev pub WorldChanges : List Birth → SourceWorldStep → Type 0
WorldChanges births (Next w report) = BirthsChange births w.shared.births report.news
WorldChanges births (Last w report ending) = BirthsChange births w.shared.births report.news
WorldChanges births NoStep = Unit {0}

lifted-changes : (w : SourceWorld) (k : ℕ) (outcome : SourceOutcome) → Changes w.shared.births outcome → WorldChanges w.shared.births (lifted w k nothing_happened outcome)
lifted-changes w k (Goes s report) h = h
lifted-changes w k Stays h = same w.shared.births
lifted-changes w k (Starts s report frame) h = h
lifted-changes w k (Finishes shared report) h = h
lifted-changes w k (Ends shared frames report ending) h = h
lifted-changes w k Stuck h = tt

task_step-changes : (program : Module) (input : List ℕ) (w : SourceWorld) (k : ℕ) (task : Option (List SourceFrame)) → WorldChanges w.shared.births (task_step (step_under program input) nothing_happened w k task)
task_step-changes program input w k None = tt
task_step-changes program input w k (Some []) = tt
task_step-changes program input w k (Some (frame ∷ callers)) = lifted-changes w k _ (source_step-changes program _ _)

world_step-changes : (program : Module) (input : List ℕ) (turns : ℕ → ℕ) (w : SourceWorld) → WorldChanges w.shared.births (source_world_step program input turns w)
unfolding world_step
world_step-changes program input turns w = task_step-changes program input (counted w) (next_task turns w) (slice_get w.tasks (next_task turns w))

-- births change to those of the last state of a run as its steps report
abbrev pub RunChanges : List Birth → SourceRun → Type 0
RunChanges births (Spent w reports) = BirthsChange births w.shared.births (all_news reports)
RunChanges births (Ended w reports ending) = BirthsChange births w.shared.births (all_news reports)
RunChanges births IsStuck = Unit {0}

after_report-changes : (before births : List Birth) (report : SourceReport) (run : SourceRun) → BirthsChange before births report.news → RunChanges births run → RunChanges before (after_report report run)
after_report-changes before births report (Spent w reports) h k = both before births w.shared.births report.news (all_news reports) h k
after_report-changes before births report (Ended w reports ending) h k = both before births w.shared.births report.news (all_news reports) h k
after_report-changes before births report IsStuck h k = tt

one_report : (before after : List Birth) (report : SourceReport) → BirthsChange before after report.news → BirthsChange before after (all_news (report ∷ []))
one_report before after report h = both before after after report.news [] h (same after)

pub after_step-changes : (births : List Birth) (go : SourceWorld → SourceRun) (step : SourceWorldStep) → WorldChanges births step → ((w : SourceWorld) → RunChanges w.shared.births (go w)) → RunChanges births (after_step go step)
after_step-changes births go (Next w report) h k = after_report-changes births w.shared.births report (go w) h (k w)
after_step-changes births go (Last w report ending) h k = one_report births w.shared.births report h
after_step-changes births go NoStep h k = tt

run_from-changes : (program : Module) (input : List ℕ) (turns : ℕ → ℕ) (n : ℕ) (w : SourceWorld) → RunChanges w.shared.births (source_run_from program input turns n w)
unfolding run_from
run_from-changes program input turns zero w = same w.shared.births
run_from-changes program input turns (suc n) w =
    after_step-changes w.shared.births _ _ (world_step-changes program input turns w) (λ v. run_from-changes program input turns n v)

pub step-next : (program : Module) (input : List ℕ) (turns : ℕ → ℕ) (w next : SourceWorld) (report : SourceReport) → source_world_step program input turns w ≡ Next next report → BirthsChange w.shared.births next.shared.births report.news
step-next program input turns w next report e = subst (WorldChanges w.shared.births) e (world_step-changes program input turns w)

pub step-last : (program : Module) (input : List ℕ) (turns : ℕ → ℕ) (w last : SourceWorld) (report : SourceReport) (ending : SourceEnding) → source_world_step program input turns w ≡ Last last report ending → BirthsChange w.shared.births last.shared.births report.news
step-last program input turns w last report ending e = subst (WorldChanges w.shared.births) e (world_step-changes program input turns w)

pub run-spent : (program : Module) (input : List ℕ) (turns : ℕ → ℕ) (n : ℕ) (w last : SourceWorld) (reports : List SourceReport) → source_run_from program input turns n w ≡ Spent last reports → BirthsChange w.shared.births last.shared.births (all_news reports)
run-spent program input turns n w last reports e = subst (RunChanges w.shared.births) e (run_from-changes program input turns n w)

pub run-ended : (program : Module) (input : List ℕ) (turns : ℕ → ℕ) (n : ℕ) (w last : SourceWorld) (reports : List SourceReport) (ending : SourceEnding) → source_run_from program input turns n w ≡ Ended last reports ending → BirthsChange w.shared.births last.shared.births (all_news reports)
run-ended program input turns n w last reports ending e = subst (RunChanges w.shared.births) e (run_from-changes program input turns n w)
