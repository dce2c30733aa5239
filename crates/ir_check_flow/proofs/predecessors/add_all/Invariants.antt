use Rattle.std.proofs.Common.{◌≡◌, drop, length}
use Rattle.ir_check_flow.specs.Phis.{predecessors_from}
use Rattle.ir_check_flow.specs.Spreading.{lists_of}
use Rattle.ir_check_flow.proofs.predecessors.add_all.Given as goal

abbrev pub invariant-loop-from : goal.invariant-loop-from
invariant-loop-from l = record {
  same : length l.lists ≡ length l.initial.lists;
  rest : predecessors_from (lists_of l.lists) l.from (lists_of (drop l.from l.ways)) ≡ predecessors_from (lists_of l.initial.lists) 0 (lists_of l.ways);
}
