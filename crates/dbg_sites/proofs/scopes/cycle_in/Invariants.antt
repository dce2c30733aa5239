use Rattle.std.proofs.Common.{◌≡◌, length}
use Rattle.ir_core.specs.Scopes.{cycle_in}
use Rattle.dbg_sites.proofs.scopes.cycle_in.Given as goal

abbrev pub invariant-loop-rest : goal.invariant-loop-rest
invariant-loop-rest l = cycle_in l.nodes l.rest ≡ cycle_in l.nodes l.fn.insts

abbrev pub decreases-loop-rest : goal.decreases-loop-rest
decreases-loop-rest l = length l.rest
