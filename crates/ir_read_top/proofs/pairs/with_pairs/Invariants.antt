use Rattle.std.proofs.Common.{◌≡◌, length}
use Rattle.ir_read_top.specs.Module.{with_pairs}
use Rattle.ir_read_top.proofs.pairs.with_pairs.Given as goal

abbrev pub invariant-loop-rest : goal.invariant-loop-rest
invariant-loop-rest l = with_pairs l.spelled l.fields l.types l.rest l.functions ≡ with_pairs l.spelled l.fields l.fn.types l.items l.libs

abbrev pub decreases-loop-rest : goal.decreases-loop-rest
decreases-loop-rest l = length l.rest
