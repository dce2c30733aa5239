use Rattle.std.proofs.Common.{◌≡◌, length}
use Rattle.ir_grammar.specs.KindOf.{parens_follow}
use Rattle.ir_grammar.proofs.kind_of.parens_follow.Given as goal

abbrev pub invariant-loop-behind : goal.invariant-loop-behind
invariant-loop-behind l = parens_follow l.tokens.source l.behind ≡ parens_follow l.tokens.source l.fn.behind

abbrev pub decreases-loop-behind : goal.decreases-loop-behind
decreases-loop-behind l = length l.behind
