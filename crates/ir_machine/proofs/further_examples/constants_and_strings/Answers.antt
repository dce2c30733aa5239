use Rattle.std.proofs.Common.{refl}
use Rattle.ir_machine.specs.Shown.{shown_run}
use Rattle.ir_machine.proofs.further_examples.constants_and_strings.Goals as goal

pub returns-clause-constant : goal.returns-clause-constant
unfolding shown_run
returns-clause-constant c = refl

pub returns-clause-string : goal.returns-clause-string
unfolding shown_run
returns-clause-string c = refl

pub returns-clause-open_string : goal.returns-clause-open_string
unfolding shown_run
returns-clause-open_string c = refl
