use Rattle.ir_grammar.proofs.Resolved.{all_resolved}
use Rattle.ir_grammar.proofs.debug_laws.kept_nodes_are_resolved.Goals as goal

pub returns : goal.returns
returns c = all_resolved
