use Rattle.std.proofs.Common.{◌≡◌, length}
use Rattle.ir_read_top.specs.Module.{with_calls}
use Rattle.ir_read_top.proofs.pairs.with_calls.Given as goal

abbrev pub invariant-loop-rest : goal.invariant-loop-rest
invariant-loop-rest l = with_calls l.spelled l.fields l.types l.rest ≡ with_calls l.spelled l.fields l.fn.types l.instructions

abbrev pub decreases-loop-rest : goal.decreases-loop-rest
decreases-loop-rest l = length l.rest
