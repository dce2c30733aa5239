use Rattle.std.proofs.Common.{◌<◌, length, arith, sym}
use Rattle.ir_functions.proofs.Positions.{first_below}
use Rattle.ir_functions.proofs.numbers.number_of.Goals as goal

pub overflow_cast-result : goal.overflow_cast-result
overflow_cast-result c =
    let below : c.in-Some.place < length c.args.index.now = first_below c.args.key.now c.args.index.now c.in-Some.place (sym c.in-Some.ensures) in
    omega arith
