-- Laws of runs under bounds, from the start.
use Rattle.std.proofs.Common.{◌≡◌, ℕ, ◌+◌, List, ◌∷◌, sym, ◌∙◌, ap}
use Rattle.hw_tags.specs.TaskRuns.{Next, Last, NoStep, Spent, Ended, IsStuck, after_report, after_step}
use Rattle.hw_tags.proofs.RunLaws.{run_from-ended}
use Rattle.ir_core.specs.declared.ir_module.Module.{Module}
use Rattle.ir_meaning.specs.Runs.{step_under, source_run_from, source_run}
use Rattle.ir_meaning.specs.Start.{source_start}
use Rattle.ir_meaning.specs.State.{SourceReport, SourceEnding, SourceWorld, SourceWorldStep, SourceRun, nothing_happened}

-- a run that ended after one more report ended without it
report-ended : (report : SourceReport) (run : SourceRun) (last : SourceWorld) (reports : List SourceReport) (ending : SourceEnding) → after_report report run ≡ Ended last reports ending → (more : List SourceReport) × (run ≡ Ended last more ending) × (reports ≡ report ∷ more)
report-ended report (Spent w later) last reports ending e = absurd cc
report-ended report (Ended w later why) last reports ending e = (later, cc, cc)
report-ended report IsStuck last reports ending e = absurd cc

pub source_run-ended : (program : Module) (input : List ℕ) (turns : ℕ → ℕ) (n m : ℕ) (last : SourceWorld) (reports : List SourceReport) (ending : SourceEnding) → source_run program input turns n ≡ Ended last reports ending → source_run program input turns (n + m) ≡ Ended last reports ending
unfolding source_run
source_run-ended program input turns n m last reports ending e = from_start (source_start program) e
  where
    from_start : (start : SourceWorldStep) → after_step (source_run_from program input turns n) start ≡ Ended last reports ending → after_step (source_run_from program input turns (n + m)) start ≡ Ended last reports ending
    from_start (Next w report) h =
        let (more, ended, is) = report-ended report (source_run_from program input turns n w) last reports ending h in
        ap (after_report report) (run_from-ended (step_under program input) nothing_happened turns n m w last more ending ended)
        ∙ ap (λ all. Ended last all ending) (sym is)
    from_start (Last w report why) h = h
    from_start NoStep h = h
