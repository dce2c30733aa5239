-- Runs of tasks that take turns: what a step of one task sees, what comes of it, and runs under a bound on steps. The
-- semantics of the source and the machine are both of this form, so they choose tasks, count steps and end in the same
-- way. This project's choice.
--
-- S is what all tasks share, F a frame of a task, H what a step reports, and E why a run ends.
use Rattle.std.specs.Prelude.{ℕ, zero, suc, ◌+◌, Bool, true, false, List, [], ◌∷◌, ◌++◌, map, slice_get, slice_set, Option, Some, None}
use Rattle.hw_tags.specs.Turn.{unfinished_of, chosen_task, turn_words}

-- A state between two steps: what all tasks share; the frames of each task, in order of start, the newest frame first; how
-- many steps were made, and how many turn words were drawn.
pub record World (S F : Type 0) : Type 0 where
  pub shared : S
  pub tasks : List (List F)
  pub steps : ℕ
  pub turns : ℕ

-- What a step of one task sees: what all tasks share; the task's number, the frame that runs, and those of its callers,
-- newest first; whether each task is finished; and the number of the step, counted from 1.
pub record Seen (S F : Type 0) : Type 0 where
  pub shared : S
  pub task : ℕ
  pub frame : F
  pub callers : List F
  pub finished : List Bool
  pub step : ℕ

-- What comes of a step. The task goes on; it stays where it is, and nothing changes; it goes on, and another task starts
-- with a frame; or it finishes. The run ends, with what all tasks share then and the frames that the task has left. A
-- step is stuck at what no accepted program reaches.
pub data Outcome (S F H E : Type 0) : Type 0 where
  Goes : Seen S F → H → Outcome S F H E
  Stays : Outcome S F H E
  Starts : Seen S F → H → F → Outcome S F H E
  Finishes : S → H → Outcome S F H E
  Ends : S → List F → H → E → Outcome S F H E
  Stuck : Outcome S F H E

-- what comes of a step for the run: the next state, the last one, or none, if it is stuck
pub data WorldStep (S F H E : Type 0) : Type 0 where
  Next : World S F → H → WorldStep S F H E
  Last : World S F → H → E → WorldStep S F H E
  NoStep : WorldStep S F H E

-- a run: all steps that the bound allows were made, it ended, or it is stuck; with what each step reported, in order
pub data Run (S F H E : Type 0) : Type 0 where
  Spent : World S F → List H → Run S F H E
  Ended : World S F → List H → E → Run S F H E
  IsStuck : Run S F H E

-- ---- tasks

-- a task that has no frame is finished
abbrev pub is_finished : {F : Type 0} → List F → Bool
is_finished [] = true
is_finished (frame ∷ frames) = false

-- whether each task is finished
abbrev pub finished_of : {F : Type 0} → List (List F) → List Bool
finished_of tasks = map is_finished tasks

-- the numbers of the unfinished tasks, in order of start
abbrev pub unfinished : {S F : Type 0} → World S F → List ℕ
unfinished w = unfinished_of (finished_of w.tasks)

-- ---- one step

-- what task k sees, whose frames are these
abbrev pub seen : {S F : Type 0} → World S F → ℕ → F → List F → Seen S F
seen w k frame callers =
    record { shared = w.shared; task = k; frame = frame; callers = callers; finished = finished_of w.tasks; step = w.steps }

-- the world with this shared part and these frames of task k
abbrev pub kept : {S F : Type 0} → World S F → ℕ → S → List F → World S F
kept w k shared frames = record w { shared = shared; tasks = slice_set w.tasks k frames }

-- the world with one more task, which has one frame
abbrev pub with_started : {S F : Type 0} → World S F → F → World S F
with_started w frame = record w { tasks = w.tasks ++ (frame ∷ []) ∷ [] }

-- what the step of task k does to the world
abbrev pub lifted : {S F H E : Type 0} → World S F → ℕ → H → Outcome S F H E → WorldStep S F H E
lifted w k nothing (Goes s report) = Next (kept w k s.shared (s.frame ∷ s.callers)) report
lifted w k nothing Stays = Next w nothing
lifted w k nothing (Starts s report frame) = Next (with_started (kept w k s.shared (s.frame ∷ s.callers)) frame) report
lifted w k nothing (Finishes shared report) = Next (kept w k shared []) report
lifted w k nothing (Ends shared frames report ending) = Last (kept w k shared frames) report ending
lifted w k nothing Stuck = NoStep

-- the step of the task with these frames; `nothing` is the report of a step in which nothing happens
abbrev pub frames_step : {S F H E : Type 0} → (Seen S F → Outcome S F H E) → H → World S F → ℕ → List F → WorldStep S F H E
frames_step step nothing w k [] = NoStep
frames_step step nothing w k (frame ∷ callers) = lifted w k nothing (step (seen w k frame callers))

abbrev pub task_step : {S F H E : Type 0} → (Seen S F → Outcome S F H E) → H → World S F → ℕ → Option (List F) → WorldStep S F H E
task_step step nothing w k None = NoStep
task_step step nothing w k (Some frames) = frames_step step nothing w k frames

-- the world in which a step is made: it is counted, and so is its turn word, if it draws one
abbrev pub counted : {S F : Type 0} → World S F → World S F
counted w = record w { steps = w.steps + 1; turns = w.turns + turn_words (unfinished w) }

-- the task that makes the next step, by the turn words
abbrev pub next_task : {S F : Type 0} → (ℕ → ℕ) → World S F → ℕ
next_task turns w = chosen_task (unfinished w) (turns w.turns)

-- one step of the run: the chosen task makes a step
unfoldable pub world_step : {S F H E : Type 0} → (Seen S F → Outcome S F H E) → H → (ℕ → ℕ) → World S F → WorldStep S F H E
world_step step nothing turns w = task_step step nothing (counted w) (next_task turns w) (slice_get w.tasks (next_task turns w))

-- ---- the run

-- a run, with one more report before its others
abbrev pub after_report : {S F H E : Type 0} → H → Run S F H E → Run S F H E
after_report report (Spent w reports) = Spent w (report ∷ reports)
after_report report (Ended w reports ending) = Ended w (report ∷ reports) ending
after_report report IsStuck = IsStuck

-- on from one step of the run
abbrev pub after_step : {S F H E : Type 0} → (World S F → Run S F H E) → WorldStep S F H E → Run S F H E
after_step go (Next w report) = after_report report (go w)
after_step go (Last w report ending) = Ended w (report ∷ []) ending
after_step go NoStep = IsStuck

-- the run of at most so many steps from a state
unfoldable pub run_from : {S F H E : Type 0} → (Seen S F → Outcome S F H E) → H → (ℕ → ℕ) → ℕ → World S F → Run S F H E
run_from step nothing turns zero w = Spent w []
run_from step nothing turns (suc bound) w = after_step (run_from step nothing turns bound) (world_step step nothing turns w)

-- reports before those of a run
abbrev pub after_reports : {S F H E : Type 0} → List H → Run S F H E → Run S F H E
after_reports earlier (Spent w reports) = Spent w (earlier ++ reports)
after_reports earlier (Ended w reports ending) = Ended w (earlier ++ reports) ending
after_reports earlier IsStuck = IsStuck

-- a run of at most so many more steps: if it ended, it stays so
abbrev pub resumed : {S F H E : Type 0} → (Seen S F → Outcome S F H E) → H → (ℕ → ℕ) → ℕ → Run S F H E → Run S F H E
resumed step nothing turns more (Spent w reports) = after_reports reports (run_from step nothing turns more w)
resumed step nothing turns more (Ended w reports ending) = Ended w reports ending
resumed step nothing turns more IsStuck = IsStuck
