use Rattle.std.proofs.Common.{◌<◌, length, arith, sym}
use Rattle.ir_functions.proofs.Positions.{node_below}
use Rattle.ir_functions.proofs.numbers.node_number.Goals as goal

pub overflow_cast-result : goal.overflow_cast-result
overflow_cast-result c =
    let below : c.in-Some.place < length c.args.nodes.now = node_below c.args.source.now c.args.nodes.now c.args.token.now c.in-Some.place (sym c.in-Some.ensures) in
    omega arith
