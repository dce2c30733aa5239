use Rattle.std.proofs.Common.{◌≡◌, ◌+◌, length}
use Rattle.hw_holes.specs.FreeRanges.{first_reaching}
use Rattle.hw_holes.proofs.ranges.first_reaching.Given as goal

abbrev pub invariant-loop-rest : goal.invariant-loop-rest
invariant-loop-rest l = record {
  same : l.place + first_reaching l.at l.rest ≡ first_reaching l.fn.at l.fn.ranges;
  within : l.place + length l.rest ≡ length l.fn.ranges;
  at : l.at ≡ l.fn.at;
}

abbrev pub decreases-loop-rest : goal.decreases-loop-rest
decreases-loop-rest l = length l.rest
