use Rattle.std.proofs.Common.{◌≡◌, length}
use Rattle.ir_core.specs.Scopes.{calls_end, chains_end}
use Rattle.dbg_sites.proofs.scopes.chains_end.Given as goal

abbrev pub invariant-loop-rest : goal.invariant-loop-rest
invariant-loop-rest l = calls_end (length l.rest) l.nodes l.at ≡ chains_end l.nodes l.fn.location

abbrev pub decreases-loop-rest : goal.decreases-loop-rest
decreases-loop-rest l = length l.rest
