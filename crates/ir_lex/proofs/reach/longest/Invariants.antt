use Rattle.std.proofs.Common.{◌≡◌, take}
use Rattle.ir_lex.specs.Reach.{longest_among}
use Rattle.ir_lex.specs.declared.reach.TheConstants.{KINDS}
use Rattle.ir_lex.proofs.reach.longest.Given as goal

abbrev pub invariant-loop-kind : goal.invariant-loop-kind
invariant-loop-kind l = l.best ≡ longest_among (take l.kind-index KINDS) l.names l.bytes
