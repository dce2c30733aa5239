use Rattle.std.proofs.Common.{◌≡◌, ◌+◌, ◌-◌, ◌^◌, ◌≤◌}
use Rattle.hw_base.specs.TaggedAddress.{address_of}
use Rattle.ir_lib.specs.Calls.{length_of}
use Rattle.ir_lib.specs.Strings.{string_at}
use Rattle.ir_lib.proofs.LengthLemmas.{longer}
use Rattle.ir_lib.proofs.strings.length.Given as goal

-- the bytes before this place are the string's
abbrev pub invariant-loop-run : goal.invariant-loop-run
invariant-loop-run l =
    record {
      from : l.at ≤ l.place;
      moved : address_of l.place ≡ address_of l.at + (l.place - l.at);
      to_come : length_of (string_at l.mem l.at) ≡ longer (l.place - l.at) (length_of (string_at l.mem l.place));
    }

abbrev pub decreases-loop-run : goal.decreases-loop-run
decreases-loop-run l = 2 ^ 56 - address_of l.place
