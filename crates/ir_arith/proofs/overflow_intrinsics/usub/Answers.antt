use Rattle.ir_arith.specs.Binary.{sub_result}
use Rattle.ir_arith.proofs.OverflowLaws.{same_pair, below_zero_test}
use Rattle.ir_arith.proofs.overflow_intrinsics.usub.Goals as goal

pub returns-clause-value : goal.returns-clause-value
unfolding sub_result
returns-clause-value c =
    same_pair c.sub.result _ _ _ c.sub.ensures.value (below_zero_test c.args.width c.args.a c.args.b c.requires.a_below)
