use Rattle.std.proofs.Common.{◌∙◌, ap, map}
use Rattle.ir_core.specs.Layout.{fields_layout, layout_at, field_types}
use Rattle.tag_insert.proofs.FieldPlaces.{offset-by}
use Rattle.tag_insert.proofs.fields.field_offset.Goals as goal

pub returns : goal.returns
returns c =
    let layouts = c.args.m.now.layouts in
    let before = c.fields_before.result.now in
    let sized = c.size_by.ensures (fields_layout c.args.packed (map (layout_at layouts) before)) c.fields_end-end.ensures.end in
    offset-by c.args.packed layouts (field_types c.args.m.now.fields c.args.first c.args.count) c.field_types-types.result.now before c.args.k
    c.size_by.result c.field_align.result c.field_start.result
    (c.field_types-types.ensures ∙ ap (λ fields. field_types fields c.args.first c.args.count) c.as_slice.ensures) c.fields_before.ensures c.field_start.ensures.start sized c.field_align.ensures
