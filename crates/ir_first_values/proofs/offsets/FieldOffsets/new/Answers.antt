use Rattle.std.proofs.Common.{rules, ◌≡◌, ◌++◌, length, ◌∙◌, ap}
use Rattle.ir_first_values.proofs.OffsetTables.{table_more}
use Rattle.ir_first_values.proofs.offsets.FieldOffsets.new.Goals as goal

pub loop-ty-preserved : goal.loop-ty-preserved
loop-ty-preserved c =
    let at : c.len-in-loop-ty.result ≡ length c.loop-ty.offsets.items = search rules in
    table_more _ _ _ _ c.in_ok-own.own.items _ _ _ _ c.loop-ty.invariant.0 c.loop-ty.invariant.1 c.in_ok-own.ensures at c.in_ok-push.ensures.items
    (c.in_ok-extend_from_slice.ensures.items ∙ ap (λ v. c.loop-ty.offsets.items ++ v) c.as_slice.ensures.value)
