use Rattle.std.proofs.Common.{◌≡◌, length}
use Rattle.ir_core.specs.Scopes.{scopes_end}
use Rattle.dbg_sites.proofs.scopes.scopes_end.Given as goal

abbrev pub invariant-loop-rest : goal.invariant-loop-rest
invariant-loop-rest l = scopes_end (length l.rest) l.nodes l.at ≡ scopes_end (length l.nodes) l.nodes l.fn.from

abbrev pub decreases-loop-rest : goal.decreases-loop-rest
decreases-loop-rest l = length l.rest
