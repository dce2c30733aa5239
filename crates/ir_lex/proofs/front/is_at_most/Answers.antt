use Rattle.std.proofs.Common.{◌<◌, length, sym, arith}
use Rattle.ir_lex.proofs.Ranges.{digit_at, value_more, value_past}
use Rattle.ir_lex.proofs.front.is_at_most.Goals as goal

pub returns-then-value-limit : goal.returns-then-value-limit
returns-then-value-limit c =
    let inside : c.loop-b.b-index < length c.args.digits.now = omega arith in
    let digit = digit_at c.args.digits.now c.loop-b.b-index c.requires.digits inside in
    sym (value_past c.args.digits.now c.loop-b.b-index c.loop-b.value c.args.limit c.requires.digits inside c.loop-b.invariant.value (omega (arith, digit.1, digit.2)))

pub loop-b-preserved : goal.loop-b-preserved
loop-b-preserved c =
    let inside : c.loop-b.b-index < length c.args.digits.now = omega arith in
    let digit = digit_at c.args.digits.now c.loop-b.b-index c.requires.digits inside in
    let more = value_more c.args.digits.now c.loop-b.b-index c.loop-b.value c.requires.digits inside c.loop-b.invariant.value in
    record { value = omega arith; limit = omega (arith, digit.1, digit.2) }
