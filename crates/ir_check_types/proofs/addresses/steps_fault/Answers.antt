use Rattle.std.proofs.Common.{◌<◌, length, arith}
use Rattle.ir_check_types.proofs.ListParts.{steps_more}
use Rattle.ir_check_types.proofs.addresses.steps_fault.Goals as goal

pub loop-index-preserved : goal.loop-index-preserved
loop-index-preserved c =
    let there : c.loop-index.index-index < length c.args.indices.now = omega arith in
    rw (c.earlier-so_far.ensures, c.step_fault.ensures, c.part_type-inner.ensures)
    (steps_more c.args.m.now c.args.f.now c.loop-index.inner c.loop-index.so_far c.args.indices.now c.loop-index.index-index _ _ there c.loop-index.invariant)
