-- The tasks of a run as the frames of each: tasks in order of start, each task's frames newest first, and a finished task has
-- none. This project's choice.
use Rattle.std.specs.Prelude.{◌≡◌, ℕ, ◌^◌, ◌<◌, ◌≤◌, false, List, ◌∷◌, All, length, slice_get, Some}
use Rattle.hw_base.specs.declared.numbers.TheConstants.{MOST_FRAMES, MOST_TASKS}
use Rattle.hw_tags.specs.TaskRuns.{finished_of}
use Rattle.hw_tags.specs.Turn.{unfinished_of}
use Rattle.ir_tasks.specs.Frames.{Frame}

-- a task was started, and isn't finished
abbrev pub IsUnfinished : List (List Frame) → (task : ℕ) → Type 0
IsUnfinished tasks task = slice_get (finished_of tasks) task ≡ Some false

-- the frames of an unfinished task: the newest one, and its callers
abbrev pub HasFrames : List (List Frame) → (task : ℕ) → Frame → (callers : List Frame) → Type 0
HasFrames tasks task frame callers = slice_get tasks task ≡ Some (frame ∷ callers)

-- how many tasks are unfinished
abbrev pub unfinished_count : List (List Frame) → ℕ
unfinished_count tasks = length (unfinished_of (finished_of tasks))

-- the frames of a task that are kept: few, and at places of 32 bits
pub record AreKept (frames : List Frame) : Type 0 where
  pub few : length frames ≤ MOST_FRAMES
  pub places : All (λ frame. frame.place < 2 ^ 32) frames

-- the tasks that are kept, and how many of them are unfinished
pub record AreTasks (tasks : List (List Frame)) (unfinished : ℕ) : Type 0 where
  pub few : length tasks ≤ MOST_TASKS
  pub each : (task : ℕ) (frames : List Frame) → slice_get tasks task ≡ Some frames → AreKept frames
  pub counted : unfinished ≡ unfinished_count tasks
