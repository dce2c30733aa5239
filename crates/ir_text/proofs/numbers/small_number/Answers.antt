use Rattle.std.proofs.Common.{arith, sym, ◌∙◌}
use Rattle.ir_text.proofs.Digits.{number_past}
use Rattle.ir_text.proofs.numbers.small_number.Goals as goal

pub returns-then-value-gt4294967295 : goal.returns-then-value-gt4294967295
returns-then-value-gt4294967295 c =
    sym (number_past c.loop-rest.value c.loop-rest.rest.now (omega arith) (sym c.if-not-is_ascii_digit.ensures.value) (omega arith)) ∙ c.loop-rest.invariant.number
