use Rattle.std.proofs.Common.{◌≡◌, ◌≤◌, ◌-◌, ◌++◌, length, take}
use Rattle.hw_base.specs.Bytes.{le_bytes}
use Rattle.hw_region.proofs.region.write_number.Given as goal

-- the bytes before here, and those that are still to come
abbrev pub invariant-loop-i : goal.invariant-loop-i
invariant-loop-i l =
    (l.i ≤ length l.fn.bytes)
    × (length l.bytes ≡ length l.fn.bytes)
    × (take l.i l.bytes ++ le_bytes (length l.fn.bytes - l.i) l.rest ≡ le_bytes (length l.fn.bytes) l.v)

abbrev pub decreases-loop-i : goal.decreases-loop-i
decreases-loop-i l = length l.fn.bytes - l.i
