use Rattle.ir_arith.proofs.DivisionLaws.{is_least_by_minus_one-first, is_least_by_minus_one-other}
use Rattle.ir_arith.proofs.binary_operations.is_out_of_range.Goals as goal

pub returns-then-a-least : goal.returns-then-a-least
returns-then-a-least c =
    is_least_by_minus_one-first c.args.width c.args.a c.args.b c.least.result c.ones.result c.requires.from_1 c.requires.a_below c.requires.b_below
    c.least.ensures c.ones.ensures c.if-a-least.true

pub returns-else-a-least : goal.returns-else-a-least
returns-else-a-least c =
    is_least_by_minus_one-other c.args.width c.args.a c.args.b c.least.result c.requires.from_1 c.requires.a_below c.requires.b_below c.least.ensures
    c.if-a-least.false
