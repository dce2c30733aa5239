use Rattle.std.proofs.Common.{◌≡◌, ◌-◌, ◌^◌, ◌≤◌}
use Rattle.hw_base.specs.TaggedAddress.{address_of}
use Rattle.ir_lib.specs.Calls.{length_of}
use Rattle.ir_lib.specs.Strings.{checked_string}
use Rattle.ir_lib.proofs.LengthLemmas.{longer}
use Rattle.ir_lib.proofs.strings.check_each.Given as goal

-- the bytes before this place pass
abbrev pub invariant-loop-found : goal.invariant-loop-found
invariant-loop-found l =
    record {
      from : l.at ≤ l.place;
      to_come : length_of (checked_string l.mem l.at) ≡ longer (l.place - l.at) (length_of (checked_string l.mem l.place));
    }

abbrev pub decreases-loop-found : goal.decreases-loop-found
decreases-loop-found l = 2 ^ 56 - address_of l.place
