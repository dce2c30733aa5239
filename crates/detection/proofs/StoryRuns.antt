-- The run with its story is the run of the source program, until the story is full.
use Rattle.std.proofs.Common.{◌≡◌, ◌≢◌, ℕ, zero, suc, List, [], ◌∷◌, slice_get, Option, None, Some, Result, Ok, Err, refl, sym, ◌∙◌, ap, subst}
use Rattle.hw_base.specs.declared.endings.Full.{Full}
use Rattle.hw_tags.specs.TaskRuns.{Goes, Stays, Starts, Finishes, Ends, Stuck, Next, Last, NoStep, Spent, Ended, IsStuck, seen, counted, lifted, task_step, next_task, world_step, after_step, after_report, run_from}
use Rattle.ir_meaning.specs.Runs.{step_under, source_run}
use Rattle.ir_meaning.specs.Start.{source_start}
use Rattle.ir_meaning.specs.State.{SourceFrame, SourceReport, SourceOutcome, SourceWorld, SourceWorldStep, SourceRun, nothing_happened}
use Rattle.tag_story.specs.Story.{StorySetting, Story, no_story}
use Rattle.tag_story.specs.Telling.{all_told}
use Rattle.tag_story.specs.ToldRun.{ToldWorld, ToldOutcome, ToldWorldStep, ToldRunOutcome, AsSource, IsFull, if_told, story_after, told_outcome, told_step, start_told, told_start_by, told_start, told_run}
use Rattle.detection.specs.Detection.{source_world, source_reports, ReportsBefore, IsRunOfSource}

-- a step with its story is the source's, unless the story is full
abbrev IsStepOfSource : ToldWorldStep → SourceWorldStep → Type 0
IsStepOfSource (Next t report) r = r ≡ Next (source_world t) report
IsStepOfSource (Last t report (AsSource ending)) r = r ≡ Last (source_world t) report ending
IsStepOfSource (Last t report (IsFull full)) r = Unit {0}
IsStepOfSource NoStep r = r ≡ NoStep

module _ (e : StorySetting) (input : List ℕ) (turns : ℕ → ℕ) where
  lifted-source : (t : ToldWorld) (k : ℕ) (frame : SourceFrame) (callers : List SourceFrame) (o : SourceOutcome) → IsStepOfSource (lifted (counted t) k nothing_happened (told_outcome e (seen (counted t) k frame callers) o)) (lifted (counted (source_world t)) k nothing_happened o)
  lifted-source t k frame callers (Goes next report) = by_story (story_after e (seen (counted t) k frame callers) report)
    where
      by_story : (r : Result Story Full) → IsStepOfSource (lifted (counted t) k nothing_happened (if_told (seen (counted t) k frame callers) r (λ w. Goes (Rattle.tag_story.specs.ToldRun.with_story next w) report))) (lifted (counted (source_world t)) k nothing_happened (Goes next report))
      by_story (Ok w) = refl
      by_story (Err full) = tt
  lifted-source t k frame callers Stays = refl
  lifted-source t k frame callers (Starts next report new) = by_story (story_after e (seen (counted t) k frame callers) report)
    where
      by_story : (r : Result Story Full) → IsStepOfSource (lifted (counted t) k nothing_happened (if_told (seen (counted t) k frame callers) r (λ w. Starts (Rattle.tag_story.specs.ToldRun.with_story next w) report new))) (lifted (counted (source_world t)) k nothing_happened (Starts next report new))
      by_story (Ok w) = refl
      by_story (Err full) = tt
  lifted-source t k frame callers (Finishes shared report) = by_story (story_after e (seen (counted t) k frame callers) report)
    where
      by_story : (r : Result Story Full) → IsStepOfSource (lifted (counted t) k nothing_happened (if_told (seen (counted t) k frame callers) r (λ w. Finishes (record { source = shared; story = w }) report))) (lifted (counted (source_world t)) k nothing_happened (Finishes shared report))
      by_story (Ok w) = refl
      by_story (Err full) = tt
  lifted-source t k frame callers (Ends shared frames report ending) = by_story (story_after e (seen (counted t) k frame callers) report)
    where
      by_story : (r : Result Story Full) → IsStepOfSource (lifted (counted t) k nothing_happened (if_told (seen (counted t) k frame callers) r (λ w. Ends (record { source = shared; story = w }) frames report (AsSource ending)))) (lifted (counted (source_world t)) k nothing_happened (Ends shared frames report ending))
      by_story (Ok w) = refl
      by_story (Err full) = tt
  lifted-source t k frame callers Stuck = refl

  task-source : (t : ToldWorld) (k : ℕ) (o : Option (List SourceFrame)) → IsStepOfSource (task_step (told_step e input) nothing_happened (counted t) k o) (task_step (step_under e.program input) nothing_happened (counted (source_world t)) k o)
  task-source t k None = refl
  task-source t k (Some []) = refl
  task-source t k (Some (frame ∷ callers)) = lifted-source t k frame callers (step_under e.program input (seen (counted (source_world t)) k frame callers))

  step-source : (t : ToldWorld) → IsStepOfSource (world_step (told_step e input) nothing_happened turns t) (world_step (step_under e.program input) nothing_happened turns (source_world t))
  unfolding world_step
  step-source t = task-source t (next_task turns t) (slice_get t.tasks (next_task turns t))

  -- ---- runs

  reports-after : (report : SourceReport) (run : SourceRun) → run ≢ IsStuck → source_reports (after_report report run) ≡ report ∷ source_reports run
  reports-after report (Spent w reports) goes = refl
  reports-after report (Ended w reports ending) goes = refl
  reports-after report IsStuck goes = absurd (goes refl)

  before-source : (report : SourceReport) (reports : List SourceReport) (run : SourceRun) → (run ≢ IsStuck → ReportsBefore reports run) → after_report report run ≢ IsStuck → ReportsBefore (report ∷ reports) (after_report report run)
  before-source report reports run before goes =
      let going : run ≢ IsStuck = λ stuck. goes (ap (after_report report) stuck) in
      let rest = before going in
      record {
        earlier = report ∷ rest.earlier;
        last = rest.last;
        all = ap (λ xs. report ∷ xs) rest.all;
        more = rest.more;
        reported = reports-after report run going ∙ ap (λ xs. report ∷ xs) rest.reported;
      }

  after-source : (report : SourceReport) (o : ToldRunOutcome) (run : SourceRun) → IsRunOfSource o run → IsRunOfSource (after_report report o) (after_report report run)
  after-source report (Spent t reports) run h = ap (after_report report) h
  after-source report (Ended t reports (AsSource ending)) run h = ap (after_report report) h
  after-source report (Ended t reports (IsFull full)) run h = before-source report reports run h
  after-source report IsStuck run h = ap (after_report report) h

  on-source : (go : ToldWorld → ToldRunOutcome) (on : SourceWorld → SourceRun) → ((t : ToldWorld) → IsRunOfSource (go t) (on (source_world t))) → (o : ToldWorldStep) (r : SourceWorldStep) → IsStepOfSource o r → IsRunOfSource (after_step go o) (after_step on r)
  on-source go on each (Next t report) r h =
      subst (λ step. IsRunOfSource (after_report report (go t)) (after_step on step)) (sym h) (after-source report (go t) (on (source_world t)) (each t))
  on-source go on each (Last t report (AsSource ending)) r h = ap (after_step on) h
  on-source go on each (Last t report (IsFull full)) r h =
      λ goes. record { earlier = []; last = report; all = refl; more = source_reports (after_step on r); reported = refl }
  on-source go on each NoStep r h = ap (after_step on) h

  run-source : (bound : ℕ) (t : ToldWorld) → IsRunOfSource (run_from (told_step e input) nothing_happened turns bound t) (run_from (step_under e.program input) nothing_happened turns bound (source_world t))
  unfolding run_from
  run-source zero t = refl
  run-source (suc bound) t =
      on-source (run_from (told_step e input) nothing_happened turns bound) (run_from (step_under e.program input) nothing_happened turns bound) (run-source bound)
      (world_step (told_step e input) nothing_happened turns t) (world_step (step_under e.program input) nothing_happened turns (source_world t)) (step-source t)

  start-source : (start : SourceWorldStep) → IsStepOfSource (told_start_by e start) start
  start-source (Next v report) = by_story (all_told e no_story report.news)
    where
      by_story : (r : Result Story Full) → IsStepOfSource (start_told v report r) (Next v report)
      by_story (Ok w) = refl
      by_story (Err full) = tt
  start-source (Last v report ending) = refl
  start-source NoStep = refl

  pub told-run-source : (bound : ℕ) → IsRunOfSource (told_run e input turns bound) (source_run e.program input turns bound)
  unfolding told_run source_run told_start
  told-run-source bound =
      on-source (run_from (told_step e input) nothing_happened turns bound) (run_from (step_under e.program input) nothing_happened turns bound) (run-source bound)
      (told_start_by e (source_start e.program)) (source_start e.program) (start-source (source_start e.program))
