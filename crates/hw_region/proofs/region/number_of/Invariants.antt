use Rattle.std.proofs.Common.{◌≡◌, ◌^◌, ◌<◌, ◌≤◌, ◌-◌, length, drop}
use Rattle.hw_base.specs.Bytes.{le_number}
use Rattle.hw_region.proofs.region.number_of.Given as goal

-- the bytes from here on spell the value
abbrev pub invariant-loop-i : goal.invariant-loop-i
invariant-loop-i l =
    (l.i ≤ length l.bytes)
    × (l.value ≡ le_number (drop l.i l.bytes))
    × (l.value < 256 ^ (length l.bytes - l.i))

abbrev pub decreases-loop-i : goal.decreases-loop-i
decreases-loop-i l = l.i
