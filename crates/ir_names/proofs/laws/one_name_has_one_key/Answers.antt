use Rattle.ir_names.proofs.OneName.{one_key}
use Rattle.ir_names.proofs.laws.one_name_has_one_key.Goals as goal

pub returns : goal.returns
returns c = one_key
