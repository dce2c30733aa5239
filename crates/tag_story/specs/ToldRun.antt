-- The source run with its story: each step's births and deaths go on with the story, and the run ends in the step, or at the
-- start, in which the story is full. This project's choice.
use Rattle.std.specs.Prelude.{ℕ, List, ◌∷◌, Result, Ok, Err}
use Rattle.hw_base.specs.declared.endings.Full.{Full}
use Rattle.hw_tags.specs.TaskRuns.{World, Seen, Outcome, Goes, Stays, Starts, Finishes, Ends, Stuck, WorldStep, Next, Last, NoStep, Run, world_step, after_step, run_from}
use Rattle.ir_meaning.specs.State.{SourceFrame, SourceShared, SourceReport, SourceEnding, SourceWorld, SourceSeen, SourceOutcome, SourceWorldStep, nothing_happened}
use Rattle.ir_meaning.specs.Runs.{step_under}
use Rattle.ir_meaning.specs.Start.{source_start}
use Rattle.tag_story.specs.Story.{StorySetting, Story, no_story}
use Rattle.tag_story.specs.Telling.{all_told}

-- what all tasks share, with the story so far
pub record ToldShared : Type 0 where
  pub source : SourceShared
  pub story : Story

-- how a told run ends: as the source run does, or the story is full
pub data ToldEnding : Type 0 where
  AsSource : SourceEnding → ToldEnding
  IsFull : Full → ToldEnding

abbrev pub ToldWorld : Type 0
ToldWorld = World ToldShared SourceFrame

abbrev pub ToldSeen : Type 0
ToldSeen = Seen ToldShared SourceFrame

abbrev pub ToldOutcome : Type 0
ToldOutcome = Outcome ToldShared SourceFrame SourceReport ToldEnding

abbrev pub ToldWorldStep : Type 0
ToldWorldStep = WorldStep ToldShared SourceFrame SourceReport ToldEnding

abbrev pub ToldRunOutcome : Type 0
ToldRunOutcome = Run ToldShared SourceFrame SourceReport ToldEnding

-- ---- one step

-- what the source's step sees
abbrev pub source_seen : ToldSeen → SourceSeen
source_seen s =
    record {
      shared = s.shared.source;
      task = s.task;
      frame = s.frame;
      callers = s.callers;
      finished = s.finished;
      step = s.step;
    }

abbrev pub with_story : SourceSeen → Story → ToldSeen
with_story s w =
    record {
      shared = record { source = s.shared; story = w };
      task = s.task;
      frame = s.frame;
      callers = s.callers;
      finished = s.finished;
      step = s.step;
    }

-- the step with its story, if there is room for what it bears; else the run ends as it was before the step
abbrev pub if_told : ToldSeen → Result Story Full → (Story → ToldOutcome) → ToldOutcome
if_told s (Ok w) go = go w
if_told s (Err full) go = Ends s.shared (s.frame ∷ s.callers) nothing_happened (IsFull full)

abbrev pub story_after : StorySetting → ToldSeen → SourceReport → Result Story Full
story_after e s report = all_told e s.shared.story report.news

abbrev pub told_outcome : StorySetting → ToldSeen → SourceOutcome → ToldOutcome
told_outcome e s (Goes next report) = if_told s (story_after e s report) (λ w. Goes (with_story next w) report)
told_outcome e s Stays = Stays
told_outcome e s (Starts next report frame) = if_told s (story_after e s report) (λ w. Starts (with_story next w) report frame)
told_outcome e s (Finishes shared report) =
    if_told s (story_after e s report) (λ w. Finishes (record { source = shared; story = w }) report)
told_outcome e s (Ends shared frames report ending) =
    if_told s (story_after e s report) (λ w. Ends (record { source = shared; story = w }) frames report (AsSource ending))
told_outcome e s Stuck = Stuck

-- a step of a task with its story
abbrev pub told_step : StorySetting → (input : List ℕ) → ToldSeen → ToldOutcome
told_step e input s = told_outcome e s (step_under e.program input (source_seen s))

-- ---- runs

abbrev pub told_world : SourceWorld → Story → ToldWorld
told_world v w =
    record { shared = record { source = v.shared; story = w }; tasks = v.tasks; steps = v.steps; turns = v.turns }

-- the start with the story of its births
abbrev pub start_told : SourceWorld → SourceReport → Result Story Full → ToldWorldStep
start_told v report (Ok w) = Next (told_world v w) report
start_told v report (Err full) = Last (told_world v no_story) nothing_happened (IsFull full)

abbrev pub told_start_by : StorySetting → SourceWorldStep → ToldWorldStep
told_start_by e (Next v report) = start_told v report (all_told e no_story report.news)
told_start_by e (Last v report ending) = Last (told_world v no_story) report (AsSource ending)
told_start_by e NoStep = NoStep

unfoldable pub told_start : StorySetting → ToldWorldStep
told_start e = told_start_by e (source_start e.program)

abbrev pub told_world_step : StorySetting → (input : List ℕ) → (turns : ℕ → ℕ) → ToldWorld → ToldWorldStep
told_world_step e input turns v = world_step (told_step e input) nothing_happened turns v

abbrev pub told_run_from : StorySetting → (input : List ℕ) → (turns : ℕ → ℕ) → (bound : ℕ) → ToldWorld → ToldRunOutcome
told_run_from e input turns bound v = run_from (told_step e input) nothing_happened turns bound v

-- The source run with its story, of at most so many steps, from the start.
unfoldable pub told_run : StorySetting → (input : List ℕ) → (turns : ℕ → ℕ) → (bound : ℕ) → ToldRunOutcome
told_run e input turns bound = after_step (told_run_from e input turns bound) (told_start e)
