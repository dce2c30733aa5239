use Rattle.std.proofs.Common.{◌<◌, take, length, arith}
use Rattle.ir_check_flow.proofs.Spread.{one_more, next_target}
use Rattle.ir_check_flow.proofs.spreading.reach_all.Goals as goal

pub loop-to-preserved : goal.loop-to-preserved
loop-to-preserved c =
    let there : c.loop-to.to-index < length c.args.targets.now = omega arith in
    next_target c.args.targets.now c.loop-to.to-index 0 c.args.bits c.args.reach.now c.args.work.now.items _ _ there
    (one_more (take c.loop-to.to-index c.args.targets.now) _ c.args.bits c.args.reach.now c.args.work.now.items _ _ _ _ c.loop-to.invariant c.in_ok-reach_one.ensures)
