use Rattle.std.proofs.Common.{◌≡◌, ◌++◌, length}
use Rattle.ir_functions.specs.Functions.{all_instructions}
use Rattle.ir_functions.proofs.blocks.all_instructions.Given as goal

abbrev pub invariant-loop-rest : goal.invariant-loop-rest
invariant-loop-rest l = l.all.items ++ all_instructions l.instructions l.rest ≡ all_instructions l.instructions l.fn.blocks

abbrev pub decreases-loop-rest : goal.decreases-loop-rest
decreases-loop-rest l = length l.rest
