use Rattle.std.proofs.Common.{◌∙◌, ap}
use Rattle.ir_core.specs.Externals.{family}
use Rattle.ir_core.proofs.Names.{no_pairs}
use Rattle.ir_core.proofs.externals.with_width.Goals as goal

pub returns-else-has_pairs : goal.returns-else-has_pairs
returns-else-has_pairs c = λ lib e.
    no_pairs c.in-Bits.op c.in-Some.width c.args.rest.now lib (λ pairs. let no = c.if-has_pairs.ensures.1 pairs in cc) c.in-Some.ensures.0 c.in-Some.ensures.1 (e ∙ ap family c.in-Bits.is)
