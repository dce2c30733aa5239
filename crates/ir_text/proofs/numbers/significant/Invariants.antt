use Rattle.std.proofs.Common.{◌≡◌, length}
use Rattle.ir_text.specs.TokenText.{significant}
use Rattle.ir_text.proofs.numbers.significant.Given as goal

abbrev pub invariant-loop-rest : goal.invariant-loop-rest
invariant-loop-rest l = significant l.rest ≡ significant l.fn.digits

abbrev pub decreases-loop-rest : goal.decreases-loop-rest
decreases-loop-rest l = length l.rest
