use Rattle.std.proofs.Common.{◌-◌, ◌≤◌, take, length}
use Rattle.ir_check_flow.specs.Spreading.{lists_of}
use Rattle.ir_check_flow.specs.Answering.{IsOpenAmong}
use Rattle.ir_check_flow.specs.First.{IsFirstOf}
use Rattle.ir_check_flow.proofs.answering.open_fault.Given as goal

abbrev pub invariant-loop-at : goal.invariant-loop-at
invariant-loop-at l = record {
  inside : l.at ≤ length l.questions;
  so_far : IsFirstOf (IsOpenAmong (lists_of l.ways) (take l.at l.questions)) l.first;
}

abbrev pub decreases-loop-at : goal.decreases-loop-at
decreases-loop-at l = length l.questions - l.at
