use Rattle.hw_tags.specs.TaskRuns.{finished_of}
use Rattle.hw_tags.proofs.UnfinishedTasks.{unfinished_of-only}
use Rattle.ir_tasks.proofs.turns.Turns.draw.Goals as goal

pub returns-clause-unfinished : goal.returns-clause-unfinished
returns-clause-unfinished c = unfinished_of-only (finished_of c.args.tasks.now) c.nth_unfinished.result _ c.nth_unfinished.ensures
