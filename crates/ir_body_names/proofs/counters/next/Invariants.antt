use Rattle.std.proofs.Common.{◌≡◌, ◌++◌, length}
use Rattle.ir_body_names.specs.Counters.{next}
use Rattle.ir_body_names.proofs.counters.next.Given as goal

abbrev pub invariant-loop-rest : goal.invariant-loop-rest
invariant-loop-rest l = l.out.items ++ next l.rest ≡ next l.fn.digits

abbrev pub decreases-loop-rest : goal.decreases-loop-rest
decreases-loop-rest l = length l.rest
