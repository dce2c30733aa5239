use Rattle.std.proofs.Common.{to_z-of_z}
use Rattle.ir_arith.proofs.TwosComplementLaws.{fits_signed-negative, fits_signed-natural}
use Rattle.ir_arith.proofs.twos_complement.is_in_signed_range.Goals as goal

pub returns-then-z-lt0 : goal.returns-then-z-lt0
returns-then-z-lt0 c =
    fits_signed-negative c.args.width c.cast_unsigned-bits.result c.least.result c.args.z _ (to_z-of_z c.ranges.z)
    c.cast_unsigned-bits.ensures c.if-z-lt0.true c.ranges.z c.least.ensures

pub returns-else-z-lt0 : goal.returns-else-z-lt0
returns-else-z-lt0 c =
    fits_signed-natural c.args.width c.cast_unsigned-bits.result c.least-else-z-lt0.result c.args.z _ (to_z-of_z c.ranges.z)
    c.cast_unsigned-bits.ensures c.if-z-lt0.false c.least-else-z-lt0.ensures
