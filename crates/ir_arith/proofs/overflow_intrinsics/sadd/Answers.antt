use Rattle.std.proofs.Common.{◌∙◌, subst₂, ◌+ℤ◌, ℤ, SomeIff, FitsSigned}
use Rattle.std.specs.Int.{w128}
use Rattle.ir_arith.specs.TwosComplement.{signed_of}
use Rattle.ir_arith.proofs.TwosComplementLaws.{held}
use Rattle.ir_arith.proofs.OverflowLaws.{same_pair, unsigned_of-signed_sum, outside_signed}
use Rattle.ir_arith.proofs.overflow_intrinsics.sadd.Goals as goal

pub returns-clause-value : goal.returns-clause-value
returns-clause-value c =
    let first = held (signed_of c.args.width c.args.a) c.signed.result c.signed.type_inv c.signed.ensures in
    let second = held (signed_of c.args.width c.args.b) c.signed-2.result c.signed-2.type_inv c.signed-2.ensures in
    let exact = signed_of c.args.width c.args.a +ℤ signed_of c.args.width c.args.b in
    same_pair c.add.result _ c.is_outside_signed-is_outside.result _
    (c.add.ensures.value ∙ unsigned_of-signed_sum c.args.width c.args.a c.args.b c.requires.from_1 c.requires.a_below c.requires.b_below)
    (outside_signed c.args.width c.checked_add.result exact c.is_outside_signed-is_outside.result c.requires.from_1 c.requires.to_128
    (let P : ℤ → ℤ → Type 0 = λ x y. SomeIff c.checked_add.result (FitsSigned w128 (x +ℤ y)) (x +ℤ y) in subst₂ P first second c.checked_add.ensures)
    c.is_outside_signed-is_outside.ensures)
