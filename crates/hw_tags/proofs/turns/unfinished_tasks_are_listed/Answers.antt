use Rattle.hw_tags.proofs.UnfinishedTasks.{unfinished_of-each, unfinished_of-only}
use Rattle.hw_tags.proofs.turns.unfinished_tasks_are_listed.Goals as goal

pub returns-clause-each : goal.returns-clause-each
returns-clause-each c = unfinished_of-each

pub returns-clause-only : goal.returns-clause-only
returns-clause-only c = unfinished_of-only
