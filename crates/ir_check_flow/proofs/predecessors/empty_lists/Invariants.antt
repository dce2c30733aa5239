use Rattle.std.proofs.Common.{ℕ, ◌≡◌, ◌-◌, ◌≤◌, List, [], replicate, length}
use Rattle.ir_check_flow.specs.Spreading.{lists_of}
use Rattle.ir_check_flow.proofs.predecessors.empty_lists.Given as goal

abbrev pub invariant-made : goal.invariant-made
invariant-made l = record {
  few : length l.lists.items ≤ l.count;
  all : lists_of l.lists.items ≡ replicate {A = List ℕ} (length l.lists.items) [];
}

abbrev pub decreases-made : goal.decreases-made
decreases-made l = l.count - length l.lists.items
