use Rattle.std.proofs.Common.{◌≡◌, map, take}
use Rattle.ir_core.specs.Layout.{fields_layout, layout_at, capped}
use Rattle.ir_core.specs.Starts.{AreStarts}
use Rattle.ir_core.proofs.module_sizes.offsets_in.Given as goal

abbrev pub invariant-loop-ty : goal.invariant-loop-ty
invariant-loop-ty l =
    (l.so_far ≡ capped (fields_layout l.packed (map (layout_at l.layouts) (take l.ty-index l.types))))
    × AreStarts l.packed l.layouts l.types l.ty-index l.starts.items
