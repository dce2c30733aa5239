use Rattle.std.proofs.Common.{◌<◌, length, sym, ◌∙◌, arith}
use Rattle.ir_check_flow.proofs.LimitLists.{size_more, large_here}
use Rattle.ir_check_flow.proofs.limits.are_small_sizes.Goals as goal

pub returns-then-not-is_small_at : goal.returns-then-not-is_small_at
returns-then-not-is_small_at c =
    let there : c.loop-i.i < length c.args.sizes.now = omega arith in
    large_here c.args.sizes.now c.loop-i.i _ there (sym c.is_small_at.ensures ∙ c.if-not-is_small_at.true) c.loop-i.invariant

pub loop-i-preserved : goal.loop-i-preserved
loop-i-preserved c =
    let there : c.loop-i.i < length c.args.sizes.now = omega arith in
    size_more c.args.sizes.now c.loop-i.i _ there (sym c.is_small_at.ensures ∙ c.if-not-is_small_at.false) c.loop-i.invariant
