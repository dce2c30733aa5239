use Rattle.hw_tags.specs.TaskRuns.{finished_of}
use Rattle.hw_tags.proofs.UnfinishedTasks.{unfinished_of-only}
use Rattle.ir_tasks.proofs.turns.Turns.pick.Goals as goal

pub returns-then-unfinished-eq1-clause-unfinished : goal.returns-then-unfinished-eq1-clause-unfinished
returns-then-unfinished-eq1-clause-unfinished c = unfinished_of-only (finished_of c.args.tasks.now) c.first_unfinished.result _ c.first_unfinished.ensures
