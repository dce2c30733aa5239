use Rattle.ir_grammar.proofs.WellFormed.{well_formed, type_clear, constant_clear}
use Rattle.ir_grammar.proofs.laws.one_token_ahead_decides.Goals as goal

pub returns-clause-names : goal.returns-clause-names
returns-clause-names c = well_formed

pub returns-clause-types : goal.returns-clause-types
returns-clause-types c = type_clear

pub returns-clause-constants : goal.returns-clause-constants
returns-clause-constants c = constant_clear
