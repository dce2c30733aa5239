use Rattle.std.proofs.Common.{◌≡◌, ◌++◌, drop}
use Rattle.mi_code.specs.EdgeMoves.{phi_moves}
use Rattle.tag_insert.proofs.edges.phi_moves.Given as goal

abbrev pub invariant-loop-phi : goal.invariant-loop-phi
invariant-loop-phi l = l.moves ++ phi_moves l.f l.from (drop l.phi-index l.phis) ≡ phi_moves l.f l.from l.phis
