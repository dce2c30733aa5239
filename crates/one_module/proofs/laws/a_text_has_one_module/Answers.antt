use Rattle.one_module.proofs.OneModule.{one_module}
use Rattle.one_module.proofs.laws.a_text_has_one_module.Goals as goal

pub returns : goal.returns
returns c = one_module
