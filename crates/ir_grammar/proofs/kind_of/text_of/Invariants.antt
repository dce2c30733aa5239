use Rattle.std.proofs.Common.{◌≡◌, ◌++◌, length}
use Rattle.ir_grammar.specs.KindOf.{terminals_of}
use Rattle.ir_grammar.proofs.kind_of.text_of.Given as goal

abbrev pub invariant-loop-rest : goal.invariant-loop-rest
invariant-loop-rest l = l.found.items ++ terminals_of l.tokens.source l.rest ≡ terminals_of l.tokens.source l.tokens.tokens

abbrev pub decreases-loop-rest : goal.decreases-loop-rest
decreases-loop-rest l = length l.rest
