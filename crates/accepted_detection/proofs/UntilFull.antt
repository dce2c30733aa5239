-- Until the step in which the story is full the run with its story goes on, and so does the source's.
use Rattle.std.proofs.Common.{◌≡◌, ℕ, zero, suc, ◌+◌, List, [], ◌∷◌, ◌++◌, slice_get, Option, None, Some, Result, Ok, Err, refl, sym, ◌∙◌, ap, subst, arith}
use Rattle.hw_base.specs.declared.endings.Full.{Full}
use Rattle.hw_tags.specs.TaskRuns.{Goes, Stays, Starts, Finishes, Ends, Stuck, Next, Last, NoStep, Spent, Ended, IsStuck, seen, counted, lifted, task_step, next_task, world_step, after_report, after_step, run_from}
use Rattle.ir_meaning.specs.Runs.{step_under, source_run}
use Rattle.ir_core.specs.declared.ir_module.Function.{Function}
use Rattle.ir_meaning.specs.CallSteps.{Entry, entry_of}
use Rattle.ir_meaning.specs.Start.{global_births, global_news, world_with_main, start_with, source_start}
use Rattle.ir_meaning.specs.State.{SourceFrame, SourceReport, SourceOutcome, nothing_happened, telling}
use Rattle.tag_story.specs.Story.{StorySetting, Story, no_story}
use Rattle.tag_story.specs.Telling.{all_told}
use Rattle.tag_story.specs.ToldRun.{ToldWorld, ToldEnding, ToldWorldStep, ToldRunOutcome, AsSource, IsFull, if_told, with_story, source_seen, story_after, told_outcome, told_step, told_run_from, start_told, told_start_by, told_start, told_run}
use Rattle.detection.proofs.StoryRuns.{told-run-source}
use Rattle.detection.specs.Detection.{source_world, IsRunOfSource}
use Rattle.accepted_detection.specs.AcceptedRuns.{ComesTo}

-- the end in a step of this number: if the story is full, nothing happened in it
abbrev EndsCounted : (steps : ℕ) → ToldWorld → SourceReport → ToldEnding → Type 0
EndsCounted steps t report (AsSource ending) = Unit {0}
EndsCounted steps t report (IsFull full) = (t.steps ≡ steps) × (report ≡ nothing_happened)

abbrev IsCounted : (steps : ℕ) → ToldWorldStep → Type 0
IsCounted steps (Next t report) = t.steps ≡ steps
IsCounted steps (Last t report ending) = EndsCounted steps t report ending
IsCounted steps NoStep = Unit {0}

-- ---- one step

module _ (e : StorySetting) (input : List ℕ) (turns : ℕ → ℕ) where
  lifted-counted : (t : ToldWorld) (k : ℕ) (frame : SourceFrame) (callers : List SourceFrame) (o : SourceOutcome) → IsCounted (t.steps + 1) (lifted (counted t) k nothing_happened (told_outcome e (seen (counted t) k frame callers) o))
  lifted-counted t k frame callers (Goes next report) = by_story (story_after e (seen (counted t) k frame callers) report)
    where
      by_story : (r : Result Story Full) → IsCounted (t.steps + 1) (lifted (counted t) k nothing_happened (if_told (seen (counted t) k frame callers) r (λ w. Goes (with_story next w) report)))
      by_story (Ok w) = refl
      by_story (Err full) = (refl, refl)
  lifted-counted t k frame callers Stays = refl
  lifted-counted t k frame callers (Starts next report new) = by_story (story_after e (seen (counted t) k frame callers) report)
    where
      by_story : (r : Result Story Full) → IsCounted (t.steps + 1) (lifted (counted t) k nothing_happened (if_told (seen (counted t) k frame callers) r (λ w. Starts (with_story next w) report new)))
      by_story (Ok w) = refl
      by_story (Err full) = (refl, refl)
  lifted-counted t k frame callers (Finishes shared report) = by_story (story_after e (seen (counted t) k frame callers) report)
    where
      by_story : (r : Result Story Full) → IsCounted (t.steps + 1) (lifted (counted t) k nothing_happened (if_told (seen (counted t) k frame callers) r (λ w. Finishes (record { source = shared; story = w }) report)))
      by_story (Ok w) = refl
      by_story (Err full) = (refl, refl)
  lifted-counted t k frame callers (Ends shared frames report ending) = by_story (story_after e (seen (counted t) k frame callers) report)
    where
      by_story : (r : Result Story Full) → IsCounted (t.steps + 1) (lifted (counted t) k nothing_happened (if_told (seen (counted t) k frame callers) r (λ w. Ends (record { source = shared; story = w }) frames report (AsSource ending))))
      by_story (Ok w) = tt
      by_story (Err full) = (refl, refl)
  lifted-counted t k frame callers Stuck = tt

  task-counted : (t : ToldWorld) (k : ℕ) (o : Option (List SourceFrame)) → IsCounted (t.steps + 1) (task_step (told_step e input) nothing_happened (counted t) k o)
  task-counted t k None = tt
  task-counted t k (Some []) = tt
  task-counted t k (Some (frame ∷ callers)) = lifted-counted t k frame callers (step_under e.program input (source_seen (seen (counted t) k frame callers)))

  step-counted : (t : ToldWorld) → IsCounted (t.steps + 1) (world_step (told_step e input) nothing_happened turns t)
  unfolding world_step
  step-counted t = task-counted t (next_task turns t) (slice_get t.tasks (next_task turns t))

  -- ---- runs

  -- the run from t comes to the step of u, in which nothing happens any more
  record IsBefore (t u : ToldWorld) (reports : List SourceReport) : Type 0 where
    pub n : ℕ
    pub w : ToldWorld
    pub earlier : List SourceReport
    pub steps : u.steps ≡ t.steps + suc n
    pub before : told_run_from e input turns n t ≡ Spent w earlier
    pub all : reports ≡ earlier ++ nothing_happened ∷ []

  -- the rest of a run that ended after one more report
  rest-ended : (report : SourceReport) (run : ToldRunOutcome) (u : ToldWorld) (reports : List SourceReport) (ending : ToldEnding) → after_report report run ≡ Ended u reports ending → (more : List SourceReport) × (run ≡ Ended u more ending) × (reports ≡ report ∷ more)
  rest-ended report (Spent w later) u reports ending h = absurd cc
  rest-ended report (Ended w later why) u reports ending h = (later, cc, cc)
  rest-ended report IsStuck u reports ending h = absurd cc

  run-before : (bound : ℕ) (t u : ToldWorld) (reports : List SourceReport) (full : Full) → told_run_from e input turns bound t ≡ Ended u reports (IsFull full) → IsBefore t u reports
  unfolding run_from
  run-before zero t u reports full h = absurd cc
  run-before (suc bound) t u reports full h = by_step (world_step (told_step e input) nothing_happened turns t) refl (step-counted t) (λ v more later. run-before bound v u more full later) h
    where
      by_step : (r : ToldWorldStep) → world_step (told_step e input) nothing_happened turns t ≡ r → IsCounted (t.steps + 1) r
          → ((v : ToldWorld) (more : List SourceReport) → told_run_from e input turns bound v ≡ Ended u more (IsFull full) → IsBefore v u more)
          → after_step (told_run_from e input turns bound) r ≡ Ended u reports (IsFull full) → IsBefore t u reports
      by_step (Next v report) is steps on ended =
          let (more, later, all) = rest-ended report (told_run_from e input turns bound v) u reports (IsFull full) ended in
          let rest = on v more later in
          let count = rest.steps in
          record {
            n = suc rest.n;
            w = rest.w;
            earlier = report ∷ rest.earlier;
            steps = omega (arith, count, steps);
            before = ap (after_step (told_run_from e input turns rest.n)) is ∙ ap (after_report report) rest.before;
            all = all ∙ ap (λ xs. report ∷ xs) rest.all;
          }
      by_step (Last v report ending) is steps on ended =
          let why : ending ≡ IsFull full = cc in
          let world : v ≡ u = cc in
          let all : reports ≡ report ∷ [] = cc in
          let last = subst (EndsCounted (t.steps + 1) v report) why steps in
          let nothing = last.1 in
          let number : u.steps ≡ t.steps + 1 = ap (λ (x : ToldWorld). x.steps) (sym world) ∙ last.0 in
          record { n = 0; w = t; earlier = []; steps = number; before = refl; all = all ∙ ap (λ (x : SourceReport). x ∷ []) nothing }
      by_step NoStep is steps on ended = absurd cc

  -- ---- the start

  first-counted : (o : Option Function) → IsCounted 0 (told_start_by e (start_with e.program o))
  first-counted None = tt
  first-counted (Some f) = by_story (all_told e no_story report.news)
    where
      entry : Entry
      entry = entry_of (global_births e.program e.program.globals) e.program.main 0 [] f.allocas

      report : SourceReport
      report = telling (global_news e.program e.program.globals ++ entry.news)

      by_story : (r : Result Story Full) → IsCounted 0 (start_told (world_with_main e.program f entry) report r)
      by_story (Ok w) = refl
      by_story (Err full) = (refl, refl)

  start-counted : IsCounted 0 (told_start e)
  unfolding told_start source_start
  start-counted = first-counted (slice_get e.program.functions e.program.main)

  pub comes-to : (bound : ℕ) (u : ToldWorld) (reports : List SourceReport) (full : Full) → told_run e input turns bound ≡ Ended u reports (IsFull full) → ComesTo u.steps reports (source_run e.program input turns)
  unfolding told_run
  comes-to bound u reports full h = by_start (told_start e) refl start-counted h
    where
      by_start : (r : ToldWorldStep) → told_start e ≡ r → IsCounted 0 r → after_step (told_run_from e input turns bound) r ≡ Ended u reports (IsFull full) → ComesTo u.steps reports (source_run e.program input turns)
      by_start (Next v report) is none ended =
          let (more, later, all) = rest-ended report (told_run_from e input turns bound v) u reports (IsFull full) ended in
          let rest = run-before bound v u more full later in
          let steps = rest.steps in
          let count : u.steps ≡ suc rest.n = omega (arith, steps, none) in
          let spent : told_run e input turns rest.n ≡ Spent rest.w (report ∷ rest.earlier) =
          ap (after_step (told_run_from e input turns rest.n)) is ∙ ap (after_report report) rest.before in
          let same = subst (λ o. IsRunOfSource o (source_run e.program input turns rest.n)) spent (told-run-source e input turns rest.n) in
          subst (λ k. ComesTo k reports (source_run e.program input turns)) (sym count)
          (source_world rest.w, report ∷ rest.earlier, same, all ∙ ap (λ xs. report ∷ xs) rest.all)
      by_start (Last v report ending) is none ended =
          let why : ending ≡ IsFull full = cc in
          let world : v ≡ u = cc in
          let all : reports ≡ report ∷ [] = cc in
          let last = subst (EndsCounted 0 v report) why none in
          let nothing = last.1 in
          let count : u.steps ≡ 0 = ap (λ (x : ToldWorld). x.steps) (sym world) ∙ last.0 in
          subst (λ k. ComesTo k reports (source_run e.program input turns)) (sym count) (all ∙ ap (λ (x : SourceReport). x ∷ []) nothing)
      by_start NoStep is none ended = absurd cc
