use Rattle.std.proofs.Common.{◌≡◌, ◌+◌, ◌-◌, ◌≤◌, replicate}
use Rattle.tbi_memory.specs.AddressSpace.{with_bytes}
use Rattle.tbi_memory.proofs.memory.Memory.fill_each.Given as goal

-- the bytes from here on are still to be written
abbrev pub invariant-loop-i : goal.invariant-loop-i
invariant-loop-i l =
    record {
      inside : l.i ≤ l.n;
      to_come : with_bytes l.self (l.a + l.i) (replicate (l.n - l.i) l.b) ≡ with_bytes l.fn.self l.a (replicate l.n l.b);
    }

abbrev pub decreases-loop-i : goal.decreases-loop-i
decreases-loop-i l = l.n - l.i
