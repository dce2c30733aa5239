use Rattle.std.proofs.Common.{sym, arith}
use Rattle.dbg_sites.proofs.Values.{value_opens, value_ends, value_more}
use Rattle.dbg_sites.proofs.fields.only_token.Goals as goal

pub returns-then-opens : goal.returns-then-opens
returns-then-opens c = value_opens c.args.tokens.now.source c.args.rest.now _ (omega arith) (sym c.if-ends_value-2.ensures) (sym c.if-opens.ensures)

pub returns-then-ends_value-3 : goal.returns-then-ends_value-3
returns-then-ends_value-3 c = value_ends c.args.tokens.now.source c.args.rest.now _ (omega arith) (sym c.if-ends_value-2.ensures) (sym c.if-opens.ensures) (sym c.if-ends_value-3.ensures)

pub returns-else-ends_value-3 : goal.returns-else-ends_value-3
returns-else-ends_value-3 c = value_more c.args.tokens.now.source c.args.rest.now _ (omega arith) (sym c.if-ends_value-2.ensures) (sym c.if-opens.ensures) (sym c.if-ends_value-3.ensures)
