-- How the offsets of a struct's fields are kept while they are worked out one after the other.
use Rattle.std.specs.Prelude.{ℕ, ◌≡◌, ◌-◌, ◌^◌, ◌<◌, min, Bool, List, map, take, length, slice_index}
use Rattle.ir_core.specs.declared.types.TypeLayout.{TypeLayout}
use Rattle.ir_core.specs.Layout.{field_start, fields_layout, layout_at, layout_size, layout_align, capped}

-- where field number k begins, by layouts that are capped, and 2^64 - 1 at most
abbrev pub start_of : Bool → List TypeLayout → List ℕ → ℕ → ℕ
start_of packed layouts types k =
    min (field_start packed (layout_size (capped (fields_layout packed (map (layout_at layouts) (take k types))))) (layout_align (layout_at layouts (slice_index types k)))) (2 ^ 64 - 1)

-- where the first so many fields begin
pub record AreStarts (packed : Bool) (layouts : List TypeLayout) (types : List ℕ) (count : ℕ) (starts : List ℕ) : Type 0 where
  pub count_is : length starts ≡ count
  pub each : (k : ℕ) → k < count → slice_index starts k ≡ start_of packed layouts types k
