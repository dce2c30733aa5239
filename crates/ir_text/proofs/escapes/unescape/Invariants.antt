use Rattle.std.proofs.Common.{◌≡◌, ◌++◌, length}
use Rattle.ir_text.specs.TokenText.{unescaped, unescaped_behind}
use Rattle.ir_text.proofs.escapes.unescape.Given as goal

abbrev pub invariant-loop-rest : goal.invariant-loop-rest
invariant-loop-rest l = l.out ++ unescaped_behind l.taken l.rest ≡ unescaped l.fn.bytes

abbrev pub decreases-loop-rest : goal.decreases-loop-rest
decreases-loop-rest l = length l.rest
