-- The frames of a task as it is kept. This project's choice.
use Rattle.std.specs.Prelude.{List, [], ◌∷◌}
use Rattle.ir_tasks.specs.Frames.{Frame}
use Rattle.ir_tasks.specs.declared.task.Task.{Task}
use Rattle.ir_tasks.specs.declared.task.Task.TheVariants.{Running, Finished}

abbrev pub task_frames : Task → List Frame
task_frames (Running calls) = calls.frame ∷ calls.callers
task_frames Finished = []
