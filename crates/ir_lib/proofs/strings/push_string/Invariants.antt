use Rattle.std.proofs.Common.{◌≡◌, ◌≤◌, length, take, Ok}
use Rattle.ir_lib.specs.Calls.{length_of}
use Rattle.ir_lib.specs.Strings.{string_at}
use Rattle.ir_lib.proofs.PushLemmas.{pushed}
use Rattle.ir_lib.proofs.strings.push_string.Given as goal

-- the bytes before this place were added
abbrev pub invariant-loop-left : goal.invariant-loop-left
invariant-loop-left l =
    record {
      long : l.before ≤ length l.out.items;
      kept : take l.before l.out.items ≡ l.fn.out.items;
      rest : length_of (string_at l.mem l.place) ≡ Ok l.left;
      to_come : pushed (string_at l.mem l.place) l.out.items ≡ pushed (string_at l.mem l.at) l.fn.out.items;
    }

abbrev pub decreases-loop-left : goal.decreases-loop-left
decreases-loop-left l = l.left
