use Rattle.ir_resolved.proofs.Resolved.{function_resolved}
use Rattle.ir_resolved.proofs.laws.functions_are_resolved.Goals as goal

pub returns : goal.returns
returns c = function_resolved
