-- When two types of a module are one (LLVM Language Reference, "Structure Type", "Array Type": a named struct is a type
-- of its own, other types are one where their parts are).
use Rattle.std.specs.Prelude.{ℕ, ◌≡◌, ◌<◌, Bool, false, List, length, slice_get, slice_index_or, Some}
use Rattle.ir_core.specs.declared.types.IrType.{IrType}
use Rattle.ir_core.specs.declared.types.IrType.TheVariants.{Void, Int, Ptr, Array, Struct, Pair}
use Rattle.ir_core.specs.Layout.{field_types, layouts_of, layout_at}
use Rattle.ir_core.specs.Progress.{is_loop}
use Rattle.ir_type_numbers.specs.Numbering.{number_at}

-- the number is marked as that of a named type's body
abbrev pub is_named : List Bool → ℕ → Bool
is_named named n = slice_index_or named n false

-- the types with two numbers are one: each is one with itself; `void`, `ptr`, and integers and pairs of one width; arrays
-- of as many items of one type; and structs without a name, of one packing, whose fields in order are of one type each
pub data IsSame (types : List IrType) (fields : List ℕ) (named : List Bool) : ℕ → ℕ → Type 0 where
  itself : (a : ℕ) → IsSame types fields named a a
  voids : (a b : ℕ) → slice_get types a ≡ Some Void → slice_get types b ≡ Some Void → IsSame types fields named a b
  pointers : (a b : ℕ) → slice_get types a ≡ Some Ptr → slice_get types b ≡ Some Ptr → IsSame types fields named a b
  integers : (a b width : ℕ) → slice_get types a ≡ Some (Int width) → slice_get types b ≡ Some (Int width) → IsSame types fields named a b
  pairs : (a b width : ℕ) → slice_get types a ≡ Some (Pair width) → slice_get types b ≡ Some (Pair width) → IsSame types fields named a b
  arrays : (a b count i j : ℕ) → slice_get types a ≡ Some (Array count i) → slice_get types b ≡ Some (Array count j)
      → IsSame types fields named i j → IsSame types fields named a b
  structs : (a b first count from size : ℕ) (packed : Bool)
      → slice_get types a ≡ Some (Struct first count packed) → slice_get types b ≡ Some (Struct from size packed)
      → is_named named a ≡ false → is_named named b ≡ false
      → length (field_types fields first count) ≡ length (field_types fields from size)
      → ((k : ℕ) → k < length (field_types fields first count)
      → IsSame types fields named (number_at (field_types fields first count) k) (number_at (field_types fields from size) k))
      → IsSame types fields named a b

-- the type has a layout: it neither holds itself nor a type that does
abbrev pub HasLayout : List IrType → List ℕ → ℕ → Type 0
HasLayout types fields n = is_loop (layout_at (layouts_of types fields) n) ≡ false
