use Rattle.std.proofs.Common.{◌^◌, ◌<◌, get_or, arith}
use Rattle.ir_check_flow.proofs.Reaching.{more_reached, none_reached}
use Rattle.ir_check_flow.proofs.spreading.reach_one.Goals as goal

pub returns-in_ok-push : goal.returns-in_ok-push
returns-in_ok-push c =
    let small : get_or c.args.reach.now c.args.to 0 < 2 ^ 128 = omega arith in
    more_reached c.args.to c.args.bits c.args.reach.now c.args.work.now.items c.push.new.self.items c.requires small
    c.if-after-before.true c.in_ok-push.ensures.items

pub returns-else-after-before : goal.returns-else-after-before
returns-else-after-before c =
    none_reached c.args.to c.args.bits c.args.reach.now c.args.work.now.items c.if-after-before.false
