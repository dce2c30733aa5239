use Rattle.std.proofs.Common.{refl}
use Rattle.ir_machine.specs.Shown.{shown_run}
use Rattle.ir_machine.proofs.further_examples.input_and_numbers.Goals as goal

pub returns-clause-one_byte : goal.returns-clause-one_byte
unfolding shown_run
returns-clause-one_byte c = refl

pub returns-clause-no_byte : goal.returns-clause-no_byte
unfolding shown_run
returns-clause-no_byte c = refl

pub returns-clause-case : goal.returns-clause-case
unfolding shown_run
returns-clause-case c = refl

pub returns-clause-other : goal.returns-clause-other
unfolding shown_run
returns-clause-other c = refl

pub returns-clause-overflow : goal.returns-clause-overflow
unfolding shown_run
returns-clause-overflow c = refl

pub returns-clause-exchange : goal.returns-clause-exchange
unfolding shown_run
returns-clause-exchange c = refl
