use Rattle.std.proofs.Common.{sym, ◌∙◌}
use Rattle.ir_machine.proofs.StartLemmas.{births-none, births-one}
use Rattle.ir_machine.proofs.run.first_births.Goals as goal

pub returns-then-is_empty : goal.returns-then-is_empty
returns-then-is_empty c = births-none c.args.program.now.globals (sym c.is_empty.ensures ∙ c.if-is_empty.true)

pub returns-else-is_empty : goal.returns-else-is_empty
returns-else-is_empty c = births-one c.args.program.now.globals (sym c.is_empty.ensures ∙ c.if-is_empty.false)
