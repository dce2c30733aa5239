use Rattle.std.proofs.Common.{◌*◌, ◌∙◌, sym}
use Rattle.ir_arith.specs.Binary.{mul_result}
use Rattle.ir_arith.proofs.TwosComplementLaws.{unsigned_of-pos}
use Rattle.ir_arith.proofs.OverflowLaws.{same_pair, outside_unsigned}
use Rattle.ir_arith.proofs.overflow_intrinsics.umul.Goals as goal

pub returns-clause-value : goal.returns-clause-value
unfolding mul_result
returns-clause-value c =
    same_pair c.mul.result _ c.is_outside_unsigned-is_outside.result _
    (c.mul.ensures.value ∙ sym (unsigned_of-pos c.args.width (c.args.a * c.args.b)))
    (outside_unsigned c.args.width c.checked_mul.result (c.args.a * c.args.b) c.is_outside_unsigned-is_outside.result c.requires.to_128
    c.checked_mul.ensures c.is_outside_unsigned-is_outside.ensures)
