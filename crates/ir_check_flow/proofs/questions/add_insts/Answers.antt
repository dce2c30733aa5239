use Rattle.std.proofs.Common.{◌<◌, length, arith}
use Rattle.ir_check_flow.proofs.Asked.{more_asked}
use Rattle.ir_check_flow.proofs.questions.add_insts.Goals as goal

pub loop-i-preserved : goal.loop-i-preserved
loop-i-preserved c =
    let there : c.loop-i.i < length c.args.insts.now = omega arith in
    more_asked c.args.uses.f.now c.args.uses.homes.now c.args.block c.args.first c.loop-i.found.items c.add_inst.new.found.items c.args.insts.now c.loop-i.i
    c.index-insts-i.result _ there c.index-insts-i.is c.in_ok-add_inst.ensures c.loop-i.invariant
