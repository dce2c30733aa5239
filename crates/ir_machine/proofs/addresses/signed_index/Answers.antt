use Rattle.std.proofs.Common.{sym, ◌∙◌, arith}
use Rattle.ir_machine.proofs.IndexLemmas.{signed-wide}
use Rattle.ir_machine.proofs.addresses.signed_index.Goals as goal

pub returns-else-width-lt64-clause-value : goal.returns-else-width-lt64-clause-value
returns-else-width-lt64-clause-value c = c.wrap.ensures.value ∙ sym (signed-wide c.args.width c.args.n (omega arith) c.requires.below)
