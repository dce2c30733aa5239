use Rattle.std.proofs.Common.{◌*◌, ◌^◌, ◌≤◌, map, take}
use Rattle.std.specs.Prelude.{IfSome}
use Rattle.ir_core.specs.Layout.{fields_layout, layout_at}
use Rattle.tag_insert.specs.FieldEnds.{IsEnd}
use Rattle.tag_insert.proofs.fields.fields_end.Given as goal

abbrev pub invariant-loop-ty : goal.invariant-loop-ty
invariant-loop-ty l = record {
  end : IsEnd (fields_layout l.packed (map (layout_at l.m.layouts) (take l.ty-index l.types))) l.end;
  near : IfSome l.end (λ at. at ≤ l.ty-index * 2 ^ 65);
}
