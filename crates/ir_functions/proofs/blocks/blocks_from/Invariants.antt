use Rattle.std.proofs.Common.{◌≡◌, ◌+◌, ◌++◌, length}
use Rattle.ir_functions.specs.Functions.{all_instructions, blocks_from}
use Rattle.ir_functions.proofs.blocks.blocks_from.Given as goal

abbrev pub invariant-loop-rest : goal.invariant-loop-rest
invariant-loop-rest l = record {
  number : l.first + length (all_instructions l.instructions l.rest) ≡ length (all_instructions l.instructions l.fn.blocks);
  blocks : l.row ++ blocks_from l.instructions l.first l.rest ≡ blocks_from l.instructions 0 l.fn.blocks;
}

abbrev pub decreases-loop-rest : goal.decreases-loop-rest
decreases-loop-rest l = length l.rest
