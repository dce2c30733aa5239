use Rattle.std.proofs.Common.{◌≡◌, length}
use Rattle.ir_core.specs.Scopes.{first_cycle}
use Rattle.dbg_sites.proofs.scopes.first_cycle.Given as goal

abbrev pub invariant-loop-rest : goal.invariant-loop-rest
invariant-loop-rest l = first_cycle l.nodes l.rest ≡ first_cycle l.nodes l.fn.functions

abbrev pub decreases-loop-rest : goal.decreases-loop-rest
decreases-loop-rest l = length l.rest
