use Rattle.std.proofs.Common.{◌-◌, ◌≤◌, length}
use Rattle.tag_insert.specs.Functions.{EndBefore}
use Rattle.tag_insert.proofs.places.block_holding.Given as goal

abbrev pub invariant-loop-number : goal.invariant-loop-number
invariant-loop-number l = record {
  within : l.number ≤ length l.blocks;
  before : EndBefore l.blocks l.number l.i;
}

abbrev pub decreases-loop-number : goal.decreases-loop-number
decreases-loop-number l = length l.blocks - l.number
