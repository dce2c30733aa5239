use Rattle.std.proofs.Common.{◌∙◌, sym, subst, ◌<◌, ◌^◌}
use Rattle.ir_arith.specs.TwosComplement.{signed_of}
use Rattle.ir_arith.proofs.TwosComplementLaws.{held}
use Rattle.ir_arith.proofs.SignedChoiceLaws.{abs_result-is, abs_result-below}
use Rattle.ir_arith.proofs.bit_intrinsics.abs.Goals as goal

pub returns-clause-value : goal.returns-clause-value
returns-clause-value c =
    c.unsigned_abs.ensures.value
    ∙ abs_result-is c.args.width c.args.a _ (held (signed_of c.args.width c.args.a) c.signed.result c.signed.type_inv c.signed.ensures)

pub returns-clause-below : goal.returns-clause-below
returns-clause-below c =
    subst (λ n. n < 2 ^ c.args.width) (sym (returns-clause-value c))
    (abs_result-below c.args.width c.args.a c.requires.from_1 c.requires.a_below)
