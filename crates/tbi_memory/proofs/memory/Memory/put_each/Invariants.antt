use Rattle.std.proofs.Common.{◌≡◌, ◌+◌, ◌-◌, ◌≤◌}
use Rattle.hw_base.specs.Bytes.{le_bytes}
use Rattle.tbi_memory.specs.AddressSpace.{with_bytes}
use Rattle.tbi_memory.proofs.memory.Memory.put_each.Given as goal

-- the bytes from here on are still to be written
abbrev pub invariant-loop-i : goal.invariant-loop-i
invariant-loop-i l =
    record {
      inside : l.i ≤ l.n;
      to_come : with_bytes l.self (l.a + l.i) (le_bytes (l.n - l.i) l.rest) ≡ with_bytes l.fn.self l.a (le_bytes l.n l.x);
    }

abbrev pub decreases-loop-i : goal.decreases-loop-i
decreases-loop-i l = l.n - l.i
