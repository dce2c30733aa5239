-- Where the fields of the structs of a module begin, kept in one list so that each is computed once.
use Rattle.std.specs.Prelude.{ℕ, ◌+◌, ◌<◌, ◌≡◌, true, List, length, slice_index, slice_get, Some}
use Rattle.ir_core.specs.declared.types.IrType.{IrType}
use Rattle.ir_core.specs.declared.ir_module.Module.{Module}
use Rattle.ir_core.specs.Layout.{field_offset_of, IsField}
use Rattle.ir_core.specs.Resolved.{HasLayouts}
use Rattle.ir_first_values.specs.declared.offsets.FieldOffsets.{FieldOffsets}
use Rattle.ir_first_values.specs.declared.tables.Initializers.{Initializers}
use Rattle.ir_first_values.specs.Tables.{is_fitting}

-- each type that is in the table has a start in the list, and from there on the offset of each of its fields, if the type has
-- a size of at most 2^40 bytes
abbrev pub AreOffsetsFrom : List IrType → List ℕ → (starts offsets : List ℕ) → Type 0
AreOffsetsFrom types fields starts offsets =
    (ty k start : ℕ) → slice_get starts ty ≡ Some start → is_fitting types fields ty ≡ true → IsField fields (slice_get types ty) k
    → (start + k < length offsets) × (slice_index offsets (start + k) ≡ field_offset_of types fields ty k)

-- the table is one of this module
abbrev pub HasOffsets : Module → FieldOffsets → Type 0
HasOffsets m o = AreOffsetsFrom m.types m.fields o.starts.items o.offsets.items

-- the layouts and the offsets are those of the module
pub record IsReady (i : Initializers) : Type 0 where
  pub layouts : HasLayouts i.module.now
  pub offsets : HasOffsets i.module.now i.offsets.now
