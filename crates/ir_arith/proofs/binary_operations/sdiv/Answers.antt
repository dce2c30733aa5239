use Rattle.std.proofs.Common.{◌∙◌, ap, ap₂, sym, subst, subst₂, ◌<◌, FitsSigned, int_div}
use Rattle.std.specs.Int.{w128, cast_unsigned}
use Rattle.ir_arith.specs.TwosComplement.{signed_of, unsigned_of}
use Rattle.ir_arith.proofs.TwosComplementLaws.{held, held_fit}
use Rattle.ir_arith.proofs.DivisionLaws.{signed_of-nonzero, quotient_fits, signed_division_by_zero, signed_division_overflow, signed_division_fits}
use Rattle.ir_arith.proofs.binary_operations.sdiv.Goals as goal

pub returns-then-b-eq0-clause-value : goal.returns-then-b-eq0-clause-value
returns-then-b-eq0-clause-value c = signed_division_by_zero c.args.width c.args.a c.args.b _ c.if-b-eq0.true

pub returns-then-is_out_of_range-clause-value : goal.returns-then-is_out_of_range-clause-value
returns-then-is_out_of_range-clause-value c =
    signed_division_overflow c.args.width c.args.a c.args.b _ c.if-b-eq0.false (sym c.is_out_of_range.ensures ∙ c.if-is_out_of_range.true)

pub nonzero_div-signed : goal.nonzero_div-signed
nonzero_div-signed c =
    let dividend = held (signed_of c.args.width c.args.a) c.signed.result c.signed.type_inv c.signed.ensures in
    let divisor = held (signed_of c.args.width c.args.b) c.signed-2.result c.signed-2.type_inv c.signed-2.ensures in (
      subst (λ z. 0 < cast_unsigned w128 z) (sym c.signed-2.ensures)
          (signed_of-nonzero c.args.width c.args.b c.requires.from_1 c.requires.to_128 c.requires.b_below c.if-b-eq0.false),
      subst₂ (λ x d. FitsSigned w128 (int_div x d)) (sym dividend) (sym divisor)
          (quotient_fits c.args.width c.args.a c.args.b c.requires.from_1 c.requires.to_128 c.requires.a_below c.requires.b_below c.if-b-eq0.false
          (sym c.is_out_of_range.ensures ∙ c.if-is_out_of_range.false)),
    )

pub returns-clause-value : goal.returns-clause-value
returns-clause-value c =
    let dividend = held (signed_of c.args.width c.args.a) c.signed.result c.signed.type_inv c.signed.ensures in
    let divisor = held (signed_of c.args.width c.args.b) c.signed-2.result c.signed-2.type_inv c.signed-2.ensures in
    let inside = sym c.is_out_of_range.ensures ∙ c.if-is_out_of_range.false in
    signed_division_fits c.args.width c.args.a c.args.b c.unsigned.result _ c.if-b-eq0.false inside
    (c.unsigned.ensures.value
    ∙ ap (unsigned_of c.args.width)
    (held_fit (int_div (signed_of c.args.width c.args.a) (signed_of c.args.width c.args.b)) _
    (quotient_fits c.args.width c.args.a c.args.b c.requires.from_1 c.requires.to_128 c.requires.a_below c.requires.b_below c.if-b-eq0.false inside)
    (ap₂ int_div dividend divisor)))
