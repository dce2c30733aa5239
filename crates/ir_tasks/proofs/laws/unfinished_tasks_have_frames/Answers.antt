use Rattle.ir_tasks.proofs.TaskLemmas.{has_frames, has_frames-unfinished}
use Rattle.ir_tasks.proofs.laws.unfinished_tasks_have_frames.Goals as goal

pub returns-clause-some : goal.returns-clause-some
returns-clause-some c = has_frames

pub returns-clause-unfinished : goal.returns-clause-unfinished
returns-clause-unfinished c = has_frames-unfinished
