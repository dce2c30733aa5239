use Rattle.std.proofs.Common.{◌≡◌, ◌≤◌}
use Rattle.tbi_memory.specs.AddressSpace.{with_bytes}
use Rattle.tbi_memory.specs.MemoryParts.{bytes_or_zeros}
use Rattle.tbi_memory.proofs.memory.Memory.copy_downwards.Given as goal

-- the bytes before here are still to be copied
abbrev pub invariant-loop-i : goal.invariant-loop-i
invariant-loop-i l =
    record {
      inside : l.i ≤ l.n;
      to_come : with_bytes l.self l.to (bytes_or_zeros l.self.bytes l.from l.i) ≡ with_bytes l.fn.self l.to (bytes_or_zeros l.fn.self.bytes l.from l.n);
    }

abbrev pub decreases-loop-i : goal.decreases-loop-i
decreases-loop-i l = l.i
