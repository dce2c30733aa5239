use Rattle.std.proofs.Common.{sym, ◌∙◌}
use Rattle.tag_insert.proofs.ArgumentPlaces.{argument-some, argument-none}
use Rattle.tag_insert.proofs.operands.argument.Goals as goal

pub returns-in-Some : goal.returns-in-Some
returns-in-Some c = c.operand_of.ensures ∙ sym (argument-some c.args.args.now c.args.k c.in-Some.arg (sym c.in-Some.ensures))

pub returns-in-None : goal.returns-in-None
returns-in-None c = sym (argument-none c.args.args.now c.args.k (sym c.in-None.ensures))
