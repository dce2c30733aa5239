use Rattle.std.proofs.Common.{◌∙◌, ap, arith}
use Rattle.std.specs.Int.{int_shr}
use Rattle.ir_arith.specs.TwosComplement.{signed_of, unsigned_of}
use Rattle.ir_arith.proofs.TwosComplementLaws.{held, held_fit}
use Rattle.ir_arith.proofs.DivisionLaws.{shift_fits, ashr_result-inside, ashr_result-past}
use Rattle.ir_arith.proofs.binary_operations.ashr.Goals as goal
use Rattle.ir_arith.proofs.binary_operations.ashr.Goals.{then-b-width, else-b-width}

pub returns-clause-value : goal.returns-clause-value
returns-clause-value c =
    let number = held (signed_of c.args.width c.args.a) c.signed.result c.signed.type_inv c.signed.ensures in
    c.unsigned.ensures.value
    ∙ ap (unsigned_of c.args.width)
    (held_fit (int_shr (signed_of c.args.width c.args.a) c.if-b-width.by) _
    (shift_fits c.args.width c.args.a c.if-b-width.by c.requires.from_1 c.requires.to_128 c.requires.a_below)
    (ap (λ z. int_shr z c.if-b-width.by) number))
    ∙ elim c.if-b-width.branch [
      | then-b-width w ↦ ashr_result-inside c.args.width c.args.a c.args.b c.if-b-width.by (omega arith) (omega arith)
      | else-b-width w ↦
          ashr_result-past c.args.width c.args.a c.args.b c.if-b-width.by c.requires.from_1 c.requires.a_below (omega arith) (omega arith)
    ]
