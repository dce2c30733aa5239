use Rattle.std.proofs.Common.{◌≡◌, ◌+◌, ◌≤◌, ◌^◌}
use Rattle.hw_base.specs.AddressMap.{granule_of}
use Rattle.hw_base.specs.TaggedAddress.{address_of}
use Rattle.hw_shadow.specs.TagRule.{granules_touched, first_mismatch}
use Rattle.tbi_memory.specs.AddressSpace.{check, last_byte}
use Rattle.tbi_memory.specs.MappedBytes.{byte_at}
use Rattle.tbi_memory.proofs.memory.Memory.check_each.Given as goal

-- the granules before this one agree
abbrev pub invariant-loop-left : goal.invariant-loop-left
invariant-loop-left l =
    record {
      in_space : l.granule ≤ 2 ^ 52;
      count : l.granule + l.left ≡ granule_of (address_of l.v) + granules_touched (address_of l.v) l.n;
      to_come : first_mismatch (byte_at l.self.shadow) (last_byte l.self.bytes) l.v l.n l.left l.granule ≡ check l.self l.v l.n;
    }

abbrev pub decreases-loop-left : goal.decreases-loop-left
decreases-loop-left l = l.left
