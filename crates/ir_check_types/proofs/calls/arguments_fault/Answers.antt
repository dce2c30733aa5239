use Rattle.std.proofs.Common.{◌<◌, length, arith}
use Rattle.ir_check_types.proofs.ListParts.{arguments_more}
use Rattle.ir_check_types.proofs.calls.arguments_fault.Goals as goal

pub loop-i-preserved : goal.loop-i-preserved
loop-i-preserved c =
    let there : c.loop-i.i < length c.args.args.now = omega arith in
    rw (c.earlier-so_far.ensures, c.argument_fault.ensures, c.type_after-wanted.ensures)
    (arguments_more c.args.m.now c.args.f.now c.args.types.now c.args.from c.loop-i.so_far c.args.args.now c.loop-i.i _ _ there c.loop-i.invariant)
