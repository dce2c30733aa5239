use Rattle.std.proofs.Common.{◌≡◌, ◌++◌, length}
use Rattle.mi_code.specs.Instrumentation.{later_starts}
use Rattle.tag_insert.proofs.places.later_starts.Given as goal

abbrev pub invariant-loop-rest : goal.invariant-loop-rest
invariant-loop-rest l = l.starts.items ++ later_starts l.m l.f l.rest ≡ l.fn.starts.items ++ later_starts l.m l.f l.fn.blocks

abbrev pub decreases-loop-rest : goal.decreases-loop-rest
decreases-loop-rest l = length l.rest
