-- Under other tag words the run with its story is the same but for tags.
use Rattle.std.proofs.Common.{◌≡◌, ℕ, zero, suc, List, [], ◌∷◌, slice_get, Option, None, Some, Result, Ok, Err, refl, sym, ap, subst}
use Rattle.hw_base.specs.declared.endings.Full.{Full}
use Rattle.hw_tags.specs.TaskRuns.{Goes, Stays, Starts, Finishes, Ends, Stuck, Next, Last, NoStep, Spent, Ended, IsStuck, seen, counted, lifted, task_step, next_task, world_step, after_step, after_report, run_from}
use Rattle.ir_meaning.specs.Runs.{step_under}
use Rattle.ir_meaning.specs.Start.{source_start}
use Rattle.ir_meaning.specs.State.{SourceFrame, SourceReport, SourceOutcome, SourceWorldStep, nothing_happened}
use Rattle.tag_story.specs.Story.{StorySetting, Story, no_story}
use Rattle.tag_story.specs.Telling.{all_told}
use Rattle.tag_story.specs.ToldRun.{ToldSeen, ToldWorld, ToldOutcome, ToldWorldStep, ToldRunOutcome, AsSource, with_story, if_told, told_outcome, told_step, start_told, told_start_by, told_start, told_run}
use Rattle.detection.proofs.SameStories.{IsRestated, SameResult, changed, told-same}
use Rattle.detection.specs.Detection.{HasRoomAlways, SameButTags}

-- a state with another story
abbrev retold : ToldWorld → Story → ToldWorld
retold t v = record t { shared = record t.shared { story = v } }

-- the same step but for the story
abbrev SameStepAs : ToldWorldStep → ToldWorldStep → Type 0
SameStepAs (Next t report) r = (v : Story) × (r ≡ Next (retold t v) report) × IsRestated t.shared.story v
SameStepAs (Last t report ending) r = (v : Story) × (r ≡ Last (retold t v) report ending)
SameStepAs NoStep r = r ≡ NoStep

-- the same run but for the story
abbrev SameRunAs : ToldRunOutcome → ToldRunOutcome → Type 0
SameRunAs (Spent t reports) r = (v : Story) × (r ≡ Spent (retold t v) reports)
SameRunAs (Ended t reports ending) r = (v : Story) × (r ≡ Ended (retold t v) reports ending)
SameRunAs IsStuck r = r ≡ IsStuck

module _ (e : StorySetting) (other : ℕ → ℕ) (input : List ℕ) (turns : ℕ → ℕ) where
  -- ---- steps

  module _ (t : ToldWorld) (v : Story) (restated : IsRestated t.shared.story v) (k : ℕ) (frame : SourceFrame) (callers : List SourceFrame) where
    -- a step with its story, and with the other one
    abbrev by_words : Result Story Full → Result Story Full → (Story → ToldOutcome) → Type 0
    by_words r q go =
        SameStepAs (lifted (counted t) k nothing_happened (if_told (seen (counted t) k frame callers) r go))
        (lifted (counted (retold t v)) k nothing_happened (if_told (seen (counted (retold t v)) k frame callers) q go))

    full-same : (full : Full) (q : Result Story Full) (go : Story → ToldOutcome) → q ≡ Err full → by_words (Err full) q go
    full-same full q go same = subst (λ p. by_words (Err full) p go) (sym same) (v, refl)

    lifted-same : (o : SourceOutcome) → SameStepAs (lifted (counted t) k nothing_happened (told_outcome e (seen (counted t) k frame callers) o)) (lifted (counted (retold t v)) k nothing_happened (told_outcome (changed e other) (seen (counted (retold t v)) k frame callers) o))
    lifted-same (Goes next report) = by_story (all_told e t.shared.story report.news) (all_told (changed e other) v report.news) (told-same e other t.shared.story v report.news restated)
      where
        by_story : (r q : Result Story Full) → SameResult r q → by_words r q (λ w. Goes (with_story next w) report)
        by_story (Ok w) q (u, same, is) = subst (λ p. by_words (Ok w) p (λ x. Goes (with_story next x) report)) (sym same) (u, refl, is)
        by_story (Err full) q same = full-same full q (λ w. Goes (with_story next w) report) same
    lifted-same Stays = (v, refl, restated)
    lifted-same (Starts next report new) = by_story (all_told e t.shared.story report.news) (all_told (changed e other) v report.news) (told-same e other t.shared.story v report.news restated)
      where
        by_story : (r q : Result Story Full) → SameResult r q → by_words r q (λ w. Starts (with_story next w) report new)
        by_story (Ok w) q (u, same, is) = subst (λ p. by_words (Ok w) p (λ x. Starts (with_story next x) report new)) (sym same) (u, refl, is)
        by_story (Err full) q same = full-same full q (λ w. Starts (with_story next w) report new) same
    lifted-same (Finishes shared report) = by_story (all_told e t.shared.story report.news) (all_told (changed e other) v report.news) (told-same e other t.shared.story v report.news restated)
      where
        by_story : (r q : Result Story Full) → SameResult r q → by_words r q (λ w. Finishes (record { source = shared; story = w }) report)
        by_story (Ok w) q (u, same, is) = subst (λ p. by_words (Ok w) p (λ x. Finishes (record { source = shared; story = x }) report)) (sym same) (u, refl, is)
        by_story (Err full) q same = full-same full q (λ w. Finishes (record { source = shared; story = w }) report) same
    lifted-same (Ends shared frames report ending) = by_story (all_told e t.shared.story report.news) (all_told (changed e other) v report.news) (told-same e other t.shared.story v report.news restated)
      where
        by_story : (r q : Result Story Full) → SameResult r q → by_words r q (λ w. Ends (record { source = shared; story = w }) frames report (AsSource ending))
        by_story (Ok w) q (u, same, is) = subst (λ p. by_words (Ok w) p (λ x. Ends (record { source = shared; story = x }) frames report (AsSource ending))) (sym same) (u, refl)
        by_story (Err full) q same = full-same full q (λ w. Ends (record { source = shared; story = w }) frames report (AsSource ending)) same
    lifted-same Stuck = refl

  task-same : (t : ToldWorld) (v : Story) → IsRestated t.shared.story v → (k : ℕ) (o : Option (List SourceFrame)) → SameStepAs (task_step (told_step e input) nothing_happened (counted t) k o) (task_step (told_step (changed e other) input) nothing_happened (counted (retold t v)) k o)
  task-same t v restated k None = refl
  task-same t v restated k (Some []) = refl
  task-same t v restated k (Some (frame ∷ callers)) =
      lifted-same t v restated k frame callers (step_under e.program input (Rattle.tag_story.specs.ToldRun.source_seen (seen (counted t) k frame callers)))

  step-same : (t : ToldWorld) (v : Story) → IsRestated t.shared.story v → SameStepAs (world_step (told_step e input) nothing_happened turns t) (world_step (told_step (changed e other) input) nothing_happened turns (retold t v))
  unfolding world_step
  step-same t v restated = task-same t v restated (next_task turns t) (slice_get t.tasks (next_task turns t))

  -- ---- runs

  after-same : (report : SourceReport) (o r : ToldRunOutcome) → SameRunAs o r → SameRunAs (after_report report o) (after_report report r)
  after-same report (Spent t reports) r h = let (v, same) = h in (v, ap (after_report report) same)
  after-same report (Ended t reports ending) r h = let (v, same) = h in (v, ap (after_report report) same)
  after-same report IsStuck r h = ap (after_report report) h

  on-same : (go on : ToldWorld → ToldRunOutcome) → ((t : ToldWorld) (v : Story) → IsRestated t.shared.story v → SameRunAs (go t) (on (retold t v))) → (o r : ToldWorldStep) → SameStepAs o r → SameRunAs (after_step go o) (after_step on r)
  on-same go on each (Next t report) r h =
      let (v, same, is) = h in
      subst (λ step. SameRunAs (after_report report (go t)) (after_step on step)) (sym same) (after-same report (go t) (on (retold t v)) (each t v is))
  on-same go on each (Last t report ending) r h = let (v, same) = h in (v, ap (after_step on) same)
  on-same go on each NoStep r h = ap (after_step on) h

  run-same : (bound : ℕ) (t : ToldWorld) (v : Story) → IsRestated t.shared.story v → SameRunAs (run_from (told_step e input) nothing_happened turns bound t) (run_from (told_step (changed e other) input) nothing_happened turns bound (retold t v))
  unfolding run_from
  run-same zero t v restated = (v, refl)
  run-same (suc bound) t v restated =
      on-same (run_from (told_step e input) nothing_happened turns bound) (run_from (told_step (changed e other) input) nothing_happened turns bound) (run-same bound)
      (world_step (told_step e input) nothing_happened turns t) (world_step (told_step (changed e other) input) nothing_happened turns (retold t v)) (step-same t v restated)

  start-same : (start : SourceWorldStep) → SameStepAs (told_start_by e start) (told_start_by (changed e other) start)
  start-same (Next w report) = by_story (all_told e no_story report.news) (all_told (changed e other) no_story report.news) (told-same e other no_story no_story report.news (record { births = []; freed = []; gone = []; drawn = 0; is = refl; same = tt }))
    where
      by_story : (r q : Result Story Full) → SameResult r q → SameStepAs (start_told w report r) (start_told w report q)
      by_story (Ok story) q (u, same, is) = subst (λ p. SameStepAs (start_told w report (Ok story)) (start_told w report p)) (sym same) (u, refl, is)
      by_story (Err full) q same = subst (λ p. SameStepAs (start_told w report (Err full)) (start_told w report p)) (sym same) (no_story, refl)
  start-same (Last w report ending) = (no_story, refl)
  start-same NoStep = refl

  whole-same : (bound : ℕ) → SameRunAs (told_run e input turns bound) (told_run (changed e other) input turns bound)
  unfolding told_run told_start
  whole-same bound =
      on-same (run_from (told_step e input) nothing_happened turns bound) (run_from (told_step (changed e other) input) nothing_happened turns bound) (run-same bound)
      (told_start_by e (source_start e.program)) (told_start_by (changed e other) (source_start e.program)) (start-same (source_start e.program))

  same-but : (o r : ToldRunOutcome) → SameRunAs o r → SameButTags o r
  same-but (Spent t reports) r h = let (v, same) = h in (retold t v, same, refl)
  same-but (Ended t reports ending) r h = let (v, same) = h in (retold t v, same, refl)
  same-but IsStuck r h = h

  pub tags-alone : (bound : ℕ) → SameButTags (told_run e input turns bound) (told_run (changed e other) input turns bound)
  tags-alone bound = same-but (told_run e input turns bound) (told_run (changed e other) input turns bound) (whole-same bound)

-- so the other run has room too
pub still-room : (o r : ToldRunOutcome) → SameButTags o r → HasRoomAlways o → HasRoomAlways r
still-room (Spent t reports) r h room = let (u, same, source) = h in subst HasRoomAlways (sym same) tt
still-room (Ended t reports (AsSource ending)) r h room = let (u, same, source) = h in subst HasRoomAlways (sym same) tt
still-room (Ended t reports (Rattle.tag_story.specs.ToldRun.IsFull full)) r h room = absurd room
still-room IsStuck r h room = subst HasRoomAlways (sym h) tt
