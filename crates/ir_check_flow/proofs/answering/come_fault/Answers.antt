use Rattle.std.proofs.Common.{◌<◌, length, arith}
use Rattle.ir_check_flow.proofs.Come.{come_more}
use Rattle.ir_check_flow.proofs.answering.come_fault.Goals as goal

pub loop-k-preserved : goal.loop-k-preserved
loop-k-preserved c =
    let there : c.loop-k.k < length c.args.questions.now = omega arith in
    rw (c.earlier-first.ensures, c.unless.ensures, c.has_come-holds.ensures)
    (come_more c.args.reach.now c.loop-k.first c.args.questions.now c.loop-k.k _ _ there c.loop-k.invariant)
