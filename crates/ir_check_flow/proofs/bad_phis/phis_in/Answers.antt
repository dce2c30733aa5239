use Rattle.std.proofs.Common.{◌≡◌, ◌<◌, length, arith}
use Rattle.std.specs.List.{Contains}
use Rattle.ir_check_flow.proofs.BadPhisFound.{next_phi, all_phis}
use Rattle.ir_check_flow.proofs.bad_phis.phis_in.Goals as goal

pub loop-i-preserved : goal.loop-i-preserved
loop-i-preserved c =
    let there : c.loop-i.i < length c.args.insts.now = omega arith in
    rw c.earlier-first.ensures
    (next_phi (Contains c.args.predecessors.now) c.args.phis c.args.insts.now c.loop-i.i c.index-insts-i.result c.loop-i.first c.in_ok-found.found there
    c.index-insts-i.is c.loop-i.invariant c.in_ok-found.ensures)

pub returns : goal.returns
returns c =
    let whole : c.loop-i.i ≡ length c.args.insts.now = omega arith in
    all_phis (Contains c.args.predecessors.now) c.args.phis c.loop-i.i c.args.insts.now c.loop-i.first whole c.loop-i.invariant
