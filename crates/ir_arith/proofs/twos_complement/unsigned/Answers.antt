use Rattle.std.proofs.Common.{◌∙◌, ap, ◌%◌, ◌^◌, to_z-of_z}
use Rattle.std.specs.Int.{w128, cast_unsigned}
use Rattle.ir_arith.proofs.TwosComplementLaws.{unsigned_of-cast}
use Rattle.ir_arith.proofs.twos_complement.unsigned.Goals as goal

pub returns-clause-value : goal.returns-clause-value
returns-clause-value c =
    c.wrap.ensures.value
    ∙ ap (λ n. n % 2 ^ c.args.width) (c.cast_unsigned.ensures ∙ ap (cast_unsigned w128) (to_z-of_z c.ranges.z))
    ∙ unsigned_of-cast c.args.width c.args.z c.requires.to_128 c.ranges.z
