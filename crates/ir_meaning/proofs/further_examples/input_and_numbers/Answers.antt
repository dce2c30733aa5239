use Rattle.std.proofs.Common.{refl}
use Rattle.ir_meaning.specs.Shown.{shown_end, shown_end_with}
use Rattle.ir_meaning.proofs.further_examples.input_and_numbers.Goals as goal

pub returns-clause-one_byte : goal.returns-clause-one_byte
unfolding shown_end_with
returns-clause-one_byte c = refl

pub returns-clause-no_byte : goal.returns-clause-no_byte
unfolding shown_end_with
returns-clause-no_byte c = refl

pub returns-clause-case : goal.returns-clause-case
unfolding shown_end_with
returns-clause-case c = refl

pub returns-clause-other : goal.returns-clause-other
unfolding shown_end_with
returns-clause-other c = refl

pub returns-clause-overflow : goal.returns-clause-overflow
unfolding shown_end
returns-clause-overflow c = refl

pub returns-clause-exchange : goal.returns-clause-exchange
unfolding shown_end
returns-clause-exchange c = refl
