use Rattle.std.proofs.Common.{◌+◌, ◌∙◌, sym}
use Rattle.ir_arith.specs.Binary.{add_result}
use Rattle.ir_arith.proofs.TwosComplementLaws.{unsigned_of-pos}
use Rattle.ir_arith.proofs.OverflowLaws.{same_pair, outside_unsigned}
use Rattle.ir_arith.proofs.overflow_intrinsics.uadd.Goals as goal

pub returns-clause-value : goal.returns-clause-value
unfolding add_result
returns-clause-value c =
    same_pair c.add.result _ c.is_outside_unsigned-is_outside.result _
    (c.add.ensures.value ∙ sym (unsigned_of-pos c.args.width (c.args.a + c.args.b)))
    (outside_unsigned c.args.width c.checked_add.result (c.args.a + c.args.b) c.is_outside_unsigned-is_outside.result c.requires.to_128
    c.checked_add.ensures c.is_outside_unsigned-is_outside.ensures)
