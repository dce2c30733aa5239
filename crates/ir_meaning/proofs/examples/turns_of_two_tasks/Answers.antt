use Rattle.std.proofs.Common.{refl}
use Rattle.ir_meaning.specs.Shown.{shown_end, shown_life}
use Rattle.ir_meaning.proofs.examples.turns_of_two_tasks.Goals as goal

pub returns-clause-reader_first : goal.returns-clause-reader_first
unfolding shown_end
returns-clause-reader_first c = refl

pub returns-clause-freed_first : goal.returns-clause-freed_first
unfolding shown_end
returns-clause-freed_first c = refl

pub returns-clause-freed_by_the_other_task : goal.returns-clause-freed_by_the_other_task
unfolding shown_life
returns-clause-freed_by_the_other_task c = refl
