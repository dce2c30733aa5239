use Rattle.stack_tags.proofs.FrameLemmas.{left-entered_ok}
use Rattle.stack_tags.proofs.laws.leaving_undoes_entering.Goals as goal

pub returns : goal.returns
returns c = left-entered_ok
