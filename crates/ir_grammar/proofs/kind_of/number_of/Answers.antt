use Rattle.std.proofs.Common.{◌<◌, ◌≤◌, length, sym, ◌∙◌, arith}
use Rattle.ir_grammar.proofs.Numbers.{digits_more, digits_end}
use Rattle.ir_grammar.proofs.kind_of.number_of.Goals as goal

pub loop-digit-preserved : goal.loop-digit-preserved
loop-digit-preserved c =
    let h : c.loop-digit.digit-index < length c.args.digits.now = omega arith in
    let e = digits_more c.loop-digit.number c.loop-digit.digit-index c.args.digits.now h in
    record {
      fits = omega (arith, c.saturating_add-number.ensures);
      value = cc (e, c.loop-digit.invariant.value, c.saturating_add-number.ensures, c.saturating_mul.ensures, c.digit_value.ensures);
    }

pub returns : goal.returns
returns c =
    let h : length c.args.digits.now ≤ c.loop-digit.digit-index = omega arith in
    sym (digits_end c.loop-digit.number c.loop-digit.digit-index c.args.digits.now h c.loop-digit.invariant.fits) ∙ c.loop-digit.invariant.value
