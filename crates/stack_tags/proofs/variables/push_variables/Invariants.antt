use Rattle.std.proofs.Common.{◌≡◌, ◌+◌, ◌-◌, ◌≤◌, ◌++◌, drop}
use Rattle.std.specs.Prelude.{vec_len, vec_capacity}
use Rattle.hw_base.specs.AddressMap.{frame_size}
use Rattle.stack_tags.specs.KeptFrames.{variables_at}
use Rattle.stack_tags.proofs.variables.push_variables.Given as goal

-- the variables from here on are still to be added
abbrev pub invariant-loop-k : goal.invariant-loop-k
invariant-loop-k l =
    record {
      inside : l.k ≤ l.count;
      room : vec_len l.variables + (l.count - l.k) ≤ vec_capacity l.variables;
      bytes : l.place + frame_size (drop l.k l.sizes) ≡ l.low + frame_size l.sizes;
      to_come : l.variables.items ++ variables_at l.place (drop l.k l.sizes) ≡ l.fn.variables.items ++ variables_at l.low l.sizes;
    }

abbrev pub decreases-loop-k : goal.decreases-loop-k
decreases-loop-k l = l.count - l.k
