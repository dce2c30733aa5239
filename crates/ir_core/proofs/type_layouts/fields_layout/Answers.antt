use Rattle.std.proofs.Common.{◌∙◌, ap}
use Rattle.ir_core.specs.Layout.{with_field, capped}
use Rattle.ir_core.proofs.Capping.{fields_layout_more}
use Rattle.ir_core.proofs.type_layouts.fields_layout.Goals as goal

pub loop-ty-preserved : goal.loop-ty-preserved
loop-ty-preserved c =
    fields_layout_more c.args.packed c.args.layouts.now c.args.types.now c.loop-ty.ty-index c.loop-ty.so_far c.with_field-so_far.result c.loop-ty-test.true c.loop-ty.invariant
    (c.with_field-so_far.ensures ∙ ap (λ l. capped (with_field c.args.packed c.loop-ty.so_far l)) c.layout_at.ensures)
