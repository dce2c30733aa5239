use Rattle.std.proofs.Common.{◌∙◌, ◌<◌, ◌%◌, refl, arith}
use Rattle.ir_arith.proofs.FunnelLaws.{fshr_result_some}
use Rattle.ir_arith.proofs.bit_intrinsics.fshr.Goals as goal

pub returns-else-places-eq0-clause-value : goal.returns-else-places-eq0-clause-value
returns-else-places-eq0-clause-value c =
    let inside : c.args.c % c.args.width < c.args.width = omega arith in
    c.joined.ensures.value
    ∙ fshr_result_some c.args.width c.args.a c.args.b c.args.c (c.args.c % c.args.width) _ refl (omega arith) inside refl c.requires.b_below
