use Rattle.ir_type_numbers.proofs.Leading.{stands_for_itself, stands_for_another}
use Rattle.ir_type_numbers.proofs.laws.a_name_is_another_word.Goals as goal

pub returns-clause-itself : goal.returns-clause-itself
returns-clause-itself c = stands_for_itself

pub returns-clause-another : goal.returns-clause-another
returns-clause-another c = stands_for_another
