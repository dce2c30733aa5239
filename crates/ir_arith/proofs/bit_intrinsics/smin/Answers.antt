use Rattle.ir_arith.specs.TwosComplement.{signed_of}
use Rattle.ir_arith.proofs.TwosComplementLaws.{held}
use Rattle.ir_arith.proofs.SignedChoiceLaws.{smin_result-first, smin_result-second}
use Rattle.ir_arith.proofs.bit_intrinsics.smin.Goals as goal

pub returns-then-signed-clause-value : goal.returns-then-signed-clause-value
returns-then-signed-clause-value c =
    smin_result-first c.args.width c.args.a c.args.b _ _
    (held (signed_of c.args.width c.args.a) c.signed.result c.signed.type_inv c.signed.ensures)
    (held (signed_of c.args.width c.args.b) c.signed-2.result c.signed-2.type_inv c.signed-2.ensures) c.if-signed.true

pub returns-else-signed-clause-value : goal.returns-else-signed-clause-value
returns-else-signed-clause-value c =
    smin_result-second c.args.width c.args.a c.args.b _ _
    (held (signed_of c.args.width c.args.a) c.signed.result c.signed.type_inv c.signed.ensures)
    (held (signed_of c.args.width c.args.b) c.signed-2.result c.signed-2.type_inv c.signed-2.ensures) c.if-signed.false
