use Rattle.std.proofs.Common.{◌≡◌, ◌++◌, length}
use Rattle.mi_code.specs.EdgeMoves.{case_edges}
use Rattle.tag_insert.proofs.edges.case_edges.Given as goal

abbrev pub invariant-loop-rest : goal.invariant-loop-rest
invariant-loop-rest l = l.edges ++ case_edges l.f l.starts l.from l.rest ≡ case_edges l.f l.starts l.from l.fn.cases

abbrev pub decreases-loop-rest : goal.decreases-loop-rest
decreases-loop-rest l = length l.rest
