use Rattle.std.proofs.Common.{◌∙◌, arith, ap, ◌+◌, ◌-◌, ◌^◌}
use Rattle.ir_arith.proofs.TwosComplementLaws.{held, cast_signed-low, cast_signed-high}
use Rattle.ir_arith.specs.TwosComplement.{signed_of}
use Rattle.ir_arith.proofs.twos_complement.signed.Goals as goal

pub returns-then-a-least : goal.returns-then-a-least
returns-then-a-least c =
    held (signed_of c.args.width c.args.a) c.cast_signed.result c.cast_signed.type_inv
    (c.cast_signed.ensures ∙ cast_signed-low c.args.width c.args.a c.requires.from_1 c.requires.to_128 (omega arith))

pub returns-else-a-least : goal.returns-else-a-least
returns-else-a-least c =
    held (signed_of c.args.width c.args.a) c.cast_signed-else-a-least.result c.cast_signed-else-a-least.type_inv
    (c.cast_signed-else-a-least.ensures
    ∙ cast_signed-high c.args.width c.args.a _ c.requires.from_1 c.requires.to_128 (omega arith) c.requires.a_below
    (ap (λ m. c.args.a + (2 ^ 128 - 1 - m)) c.ones.ensures))
