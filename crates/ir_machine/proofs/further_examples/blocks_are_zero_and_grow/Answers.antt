use Rattle.std.proofs.Common.{refl}
use Rattle.ir_machine.specs.Shown.{shown_run}
use Rattle.ir_machine.proofs.further_examples.blocks_are_zero_and_grow.Goals as goal

pub returns-clause-new_block : goal.returns-clause-new_block
unfolding shown_run
returns-clause-new_block c = refl

pub returns-clause-grown : goal.returns-clause-grown
unfolding shown_run
returns-clause-grown c = refl

pub returns-clause-compared : goal.returns-clause-compared
unfolding shown_run
returns-clause-compared c = refl

pub returns-clause-variable : goal.returns-clause-variable
unfolding shown_run
returns-clause-variable c = refl
