use Rattle.std.proofs.Common.{◌≤◌, length, arith}
use Rattle.ir_check_flow.specs.Spreading.{lists_of}
use Rattle.ir_check_flow.proofs.OpenOnes.{next_part, whole}
use Rattle.ir_check_flow.proofs.answering.open_fault.Goals as goal

pub loop-at-preserved : goal.loop-at-preserved
loop-at-preserved c =
    let up : c.loop-at.at ≤ c.min-to.result = omega arith in
    let within : c.min-to.result ≤ length c.args.questions.now = omega arith in
    record {
      inside = within;
      so_far =
          rw c.earlier-first.ensures
          (next_part (lists_of c.args.ways.now) c.args.questions.now c.loop-at.at c.min-to.result c.loop-at.first c.in_ok-part_fault.field-0 up within
          c.loop-at.invariant.so_far c.in_ok-part_fault.ensures);
    }

pub returns : goal.returns
returns c = whole (lists_of c.args.ways.now) c.args.questions.now c.loop-at.at c.loop-at.first c.loop-at.invariant.inside (omega arith) c.loop-at.invariant.so_far
