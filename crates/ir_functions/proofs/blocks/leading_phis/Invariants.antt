use Rattle.std.proofs.Common.{◌≡◌, ◌+◌, length}
use Rattle.std.specs.List.{prefix_len}
use Rattle.ir_functions.specs.Functions.{is_phi}
use Rattle.ir_functions.proofs.blocks.leading_phis.Given as goal

abbrev pub invariant-loop-rest : goal.invariant-loop-rest
invariant-loop-rest l = record {
  number : l.count + length l.rest ≡ length l.fn.instructions;
  phis : l.count + prefix_len is_phi l.rest ≡ prefix_len is_phi l.fn.instructions;
}

abbrev pub decreases-loop-rest : goal.decreases-loop-rest
decreases-loop-rest l = length l.rest
