use Rattle.stack_tags.proofs.LivingSizeLemmas.{living-sum, stacks-with_task, stacks-entered, stacks-left}
use Rattle.stack_tags.proofs.laws.the_living_size_is_the_sum.Goals as goal

pub returns-clause-sum : goal.returns-clause-sum
returns-clause-sum c = living-sum

pub returns-clause-start : goal.returns-clause-start
returns-clause-start c places ring task = tt

pub returns-clause-task : goal.returns-clause-task
returns-clause-task c = stacks-with_task

pub returns-clause-entered : goal.returns-clause-entered
returns-clause-entered c = stacks-entered

pub returns-clause-left : goal.returns-clause-left
returns-clause-left c = stacks-left
