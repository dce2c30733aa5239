use Rattle.std.proofs.Common.{◌≡◌, drop, length}
use Rattle.ir_check_flow.specs.Phis.{add_predecessors}
use Rattle.ir_check_flow.specs.Spreading.{lists_of}
use Rattle.ir_check_flow.proofs.predecessors.add_predecessors.Given as goal

abbrev pub invariant-loop-to : goal.invariant-loop-to
invariant-loop-to l = record {
  same : length l.lists ≡ length l.initial.lists;
  rest : add_predecessors (lists_of l.lists) l.from (drop l.to-index l.targets) ≡ add_predecessors (lists_of l.initial.lists) l.from l.targets;
}
