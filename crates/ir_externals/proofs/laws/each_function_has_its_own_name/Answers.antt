use Rattle.ir_externals.proofs.OneName.{one_function, one_meaning}
use Rattle.ir_externals.proofs.laws.each_function_has_its_own_name.Goals as goal

pub returns-clause-names : goal.returns-clause-names
returns-clause-names c = one_function

pub returns-clause-meanings : goal.returns-clause-meanings
returns-clause-meanings c = one_meaning
