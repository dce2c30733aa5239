use Rattle.std.proofs.Common.{◌≡◌, length}
use Rattle.std.specs.Str.{bytes_eq}
use Rattle.ir_text.specs.TokenText.{unescaped, unescaped_behind}
use Rattle.ir_text.proofs.escapes.unescapes_to.Given as goal

abbrev pub invariant-loop-rest : goal.invariant-loop-rest
invariant-loop-rest l = bytes_eq (unescaped_behind l.taken l.rest) l.wanted ≡ bytes_eq (unescaped l.fn.bytes) l.fn.name

abbrev pub decreases-loop-rest : goal.decreases-loop-rest
decreases-loop-rest l = length l.rest
