use Rattle.std.proofs.Common.{◌≡◌, ◌+◌, ◌-◌, ◌^◌, ◌<◌, ◌≤◌}
use Rattle.hw_base.specs.Bytes.{le_number}
use Rattle.tbi_memory.specs.MemoryParts.{bytes_or_zeros}
use Rattle.tbi_memory.proofs.memory.Memory.number_of.Given as goal

-- the bytes from here on spell the value
abbrev pub invariant-loop-i : goal.invariant-loop-i
invariant-loop-i l =
    record {
      inside : l.i ≤ l.n;
      spelled : l.value ≡ le_number (bytes_or_zeros l.self.bytes (l.a + l.i) (l.n - l.i));
      below : l.value < 256 ^ (l.n - l.i);
    }

abbrev pub decreases-loop-i : goal.decreases-loop-i
decreases-loop-i l = l.i
