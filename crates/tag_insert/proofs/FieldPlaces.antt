use Rattle.std.proofs.Common.{◌≡◌, ◌∙◌, ap, sym, ℕ, List, Bool, map, take}
use Rattle.std.proofs.lemmas.List.{take-map}
use Rattle.ir_core.specs.declared.types.TypeLayout.{TypeLayout}
use Rattle.ir_core.specs.Layout.{field_start, fields_layout, layout_at, layout_size, layout_align, offset_in}

-- the place of a field by the size of those before it and its alignment
pub offset-by :
    (packed : Bool) (layouts : List TypeLayout) (all types before : List ℕ) (k size align at : ℕ) → types ≡ all → before ≡ take k types
    → at ≡ field_start packed size align → size ≡ layout_size (fields_layout packed (map (layout_at layouts) before))
    → align ≡ layout_align (layout_at (map (layout_at layouts) types) k) → at ≡ offset_in packed (map (layout_at layouts) all) k
offset-by packed layouts all types before k size align at types-is before-is start size-is align-is =
    let fields = map (layout_at layouts) all in
    let same = ap (map (layout_at layouts)) (before-is ∙ ap (take k) types-is) ∙ sym (take-map (layout_at layouts) k all) in
    let sized = size-is ∙ ap (λ earlier. layout_size (fields_layout packed earlier)) same in
    let aligned = align-is ∙ ap (λ some. layout_align (layout_at (map (layout_at layouts) some) k)) types-is in
    start ∙ ap (λ n. field_start packed n align) sized
    ∙ ap (λ a. field_start packed (layout_size (fields_layout packed (take k fields))) a) aligned
