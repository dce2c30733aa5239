use Rattle.std.proofs.Common.{◌<◌, length, arith}
use Rattle.ir_check_types.proofs.ListParts.{cases_more}
use Rattle.ir_check_types.proofs.switches.cases_fault.Goals as goal

pub loop-i-preserved : goal.loop-i-preserved
loop-i-preserved c =
    let there : c.loop-i.i < length c.args.cases.now = omega arith in
    rw (c.earlier-so_far.ensures, c.case_fault.ensures)
    (cases_more c.args.m.now c.args.f.now c.args.ty c.loop-i.so_far c.args.cases.now c.loop-i.i _ _ there c.loop-i.invariant)
