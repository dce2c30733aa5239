use Rattle.std.proofs.Common.{◌≡◌, ◌+◌, ◌-◌, ◌≤◌, replicate}
use Rattle.tbi_memory.specs.MemoryParts.{with_tags}
use Rattle.tbi_memory.proofs.memory.Memory.plain_each.Given as goal

-- the granules from here on are still to be tagged
abbrev pub invariant-loop-i : goal.invariant-loop-i
invariant-loop-i l =
    record {
      inside : l.i ≤ l.count;
      to_come : with_tags l.self (l.first + l.i) (replicate (l.count - l.i) l.tag) ≡ with_tags l.fn.self l.first (replicate l.count l.tag);
    }

abbrev pub decreases-loop-i : goal.decreases-loop-i
decreases-loop-i l = l.count - l.i
