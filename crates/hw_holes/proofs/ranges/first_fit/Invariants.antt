use Rattle.std.proofs.Common.{◌≡◌, ◌+◌, length}
use Rattle.hw_holes.specs.FreeRanges.{first_fit}
use Rattle.hw_holes.proofs.ranges.first_fit.Given as goal

abbrev pub invariant-loop-rest : goal.invariant-loop-rest
invariant-loop-rest l = record {
  same : l.place + first_fit l.size l.rest ≡ first_fit l.fn.size l.fn.ranges;
  within : l.place + length l.rest ≡ length l.fn.ranges;
  size : l.size ≡ l.fn.size;
}

abbrev pub decreases-loop-rest : goal.decreases-loop-rest
decreases-loop-rest l = length l.rest
