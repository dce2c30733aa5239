use Rattle.std.proofs.Common.{◌≡◌, drop, map}
use Rattle.std.specs.Prelude.{slice_get}
use Rattle.hw_tags.specs.TaskRuns.{finished_of}
use Rattle.hw_tags.specs.Turn.{unfinished_from, unfinished_of}
use Rattle.ir_tasks.specs.TaskStates.{task_frames}
use Rattle.ir_tasks.proofs.tasks.nth_unfinished.Given as goal

-- the unfinished tasks from here on, and how many of them come before the one that is looked for
abbrev pub invariant-loop-task : goal.invariant-loop-task
invariant-loop-task l =
    slice_get (unfinished_from l.task (drop l.task (finished_of (map task_frames l.tasks)))) l.left ≡ slice_get (unfinished_of (finished_of (map task_frames l.tasks))) l.n
