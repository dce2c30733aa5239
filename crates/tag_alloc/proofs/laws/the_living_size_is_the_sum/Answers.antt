use Rattle.std.proofs.Common.{refl}
use Rattle.tag_alloc.proofs.LivingSizeLemmas.{table-with_task, table-allocated, table-after_death}
use Rattle.tag_alloc.proofs.laws.the_living_size_is_the_sum.Goals as goal

pub returns-clause-start : goal.returns-clause-start
returns-clause-start c places ring = record { apart = tt; sum = refl }

pub returns-clause-task : goal.returns-clause-task
returns-clause-task c = table-with_task

pub returns-clause-born : goal.returns-clause-born
returns-clause-born c = table-allocated

pub returns-clause-died : goal.returns-clause-died
returns-clause-died c = table-after_death
