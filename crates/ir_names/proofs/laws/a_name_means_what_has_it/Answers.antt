use Rattle.ir_names.specs.Keys.{type_key, global_key}
use Rattle.ir_names.proofs.Meant.{meant_has_key, type_by_key, global_by_key}
use Rattle.ir_names.proofs.laws.a_name_means_what_has_it.Goals as goal

pub returns-clause-key : goal.returns-clause-key
returns-clause-key c = meant_has_key

pub returns-clause-types : goal.returns-clause-types
returns-clause-types c = λ source items token item e. type_by_key source token item (meant_has_key source (type_key source token) items item e)

pub returns-clause-globals : goal.returns-clause-globals
returns-clause-globals c = λ source items token item e. global_by_key source token item (meant_has_key source (global_key source token) items item e)
