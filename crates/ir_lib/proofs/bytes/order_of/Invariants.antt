use Rattle.std.proofs.Common.{◌≡◌, None}
use Rattle.std.specs.Result.{result_err}
use Rattle.tbi_memory.specs.AddressSpace.{read}
use Rattle.ir_lib.specs.Calls.{compared}
use Rattle.ir_lib.proofs.bytes.order_of.Given as goal

-- the bytes before these places are equal
abbrev pub invariant-loop-left : goal.invariant-loop-left
invariant-loop-left l =
    record {
      first_is_mapped : result_err (read l.mem l.first l.left) ≡ None;
      second_is_mapped : result_err (read l.mem l.second l.left) ≡ None;
      to_come : compared (read l.mem l.a l.n) (read l.mem l.b l.n) ≡ compared (read l.mem l.first l.left) (read l.mem l.second l.left);
    }

abbrev pub decreases-loop-left : goal.decreases-loop-left
decreases-loop-left l = l.left
