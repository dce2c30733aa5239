use Rattle.std.proofs.Common.{refl}
use Rattle.ir_machine.specs.Shown.{shown_run}
use Rattle.ir_machine.proofs.further_examples.blocks_are_checked.Goals as goal

pub returns-clause-no_bytes : goal.returns-clause-no_bytes
unfolding shown_run
returns-clause-no_bytes c = refl

pub returns-clause-twice : goal.returns-clause-twice
unfolding shown_run
returns-clause-twice c = refl

pub returns-clause-inner : goal.returns-clause-inner
unfolding shown_run
returns-clause-inner c = refl

pub returns-clause-global : goal.returns-clause-global
unfolding shown_run
returns-clause-global c = refl

pub returns-clause-null : goal.returns-clause-null
unfolding shown_run
returns-clause-null c = refl

pub returns-clause-inner_of_realloc : goal.returns-clause-inner_of_realloc
unfolding shown_run
returns-clause-inner_of_realloc c = refl

pub returns-clause-another_tag : goal.returns-clause-another_tag
unfolding shown_run
returns-clause-another_tag c = refl
