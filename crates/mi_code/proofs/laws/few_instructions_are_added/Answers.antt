use Rattle.mi_code.proofs.AddedLength.{length-added_code, length-enter_code}
use Rattle.mi_code.proofs.laws.few_instructions_are_added.Goals as goal

pub returns-clause-added : goal.returns-clause-added
returns-clause-added c = length-added_code

pub returns-clause-entry : goal.returns-clause-entry
returns-clause-entry c = length-enter_code
