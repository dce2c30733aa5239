use Rattle.std.proofs.Common.{◌≡◌, ◌+◌, ◌-◌, ◌≤◌, drop}
use Rattle.hw_base.specs.AddressMap.{frame_size}
use Rattle.stack_tags.proofs.variables.frame_bytes.Given as goal

-- the sizes from here on are still to be added
abbrev pub invariant-loop-k : goal.invariant-loop-k
invariant-loop-k l =
    record {
      inside : l.k ≤ l.count;
      to_come : l.sum + frame_size (drop l.k l.sizes) ≡ frame_size l.sizes;
    }

abbrev pub decreases-loop-k : goal.decreases-loop-k
decreases-loop-k l = l.count - l.k
