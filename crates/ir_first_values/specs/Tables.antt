-- What first values are made from: the types of a module, the constants as they are spelled, and what spelled types and
-- names stand for. Integers and the parts of types are read here; both are as in the LLVM Language Reference ("Simple
-- Constants", "Complex Constants").
use Rattle.std.specs.Prelude.{ℕ, ◌≡◌, ◌-◌, ◌*◌, ◌%◌, ◌^◌, ◌==◌, ◌&&◌, nat_le, nat_lt, Bool, true, false, not, if◌then◌else◌, List, take, drop, slice_get, Option, Some, None}
use Rattle.ir_core.specs.declared.types.IrType.{IrType}
use Rattle.ir_core.specs.declared.types.IrType.TheVariants.{Int, Array, Struct}
use Rattle.ir_core.specs.Layout.{has_size_of, alloc_size_of, field_offset_of, field_types}
use Rattle.ir_arith.specs.TwosComplement.{signed_of, unsigned_of}
use Rattle.ir_grammar.specs.declared.spelled.SpelledInteger.{SpelledInteger}
use Rattle.ir_grammar.specs.declared.spelled.SpelledConstant.{SpelledConstant}
use Rattle.ir_grammar.specs.declared.spelled.TypedConstant.{TypedConstant}
use Rattle.ir_grammar.specs.declared.spelled.TypedIndex.{TypedIndex}
use Rattle.ir_first_values.specs.declared.tables.Initializers.{Initializers}
use Rattle.ir_first_values.specs.declared.parts.TypePart.{TypePart}

-- the types of the module with the types of their fields, the text, the spelled constants with their elements and
-- indices, the module's type of each spelled type, the class of each type of the module, and the variable that each
-- spelled constant names
pub record Tables : Type 0 where
  pub types : List IrType
  pub fields : List ℕ
  pub source : List ℕ
  pub constants : List SpelledConstant
  pub elements : List TypedConstant
  pub indices : List TypedIndex
  pub numbers : List ℕ
  pub classes : List ℕ
  pub variables : List (Option ℕ)

-- those that the program keeps
abbrev pub tables_of : Initializers → Tables
tables_of i = record {
  types = i.module.now.types;
  fields = i.module.now.fields;
  source = i.source.now;
  constants = i.found.now.constants.items;
  elements = i.found.now.elements.items;
  indices = i.found.now.indices.items;
  numbers = i.numbers.now;
  classes = i.classes.now;
  variables = i.variables.now;
}

-- the `count` items from `first` on
abbrev pub items_from : {A : Type 0} → ℕ → ℕ → List A → List A
items_from first count xs = take count (drop first xs)

-- ---- types

-- the type with this number
abbrev pub type_at : Tables → ℕ → Option IrType
type_at t n = slice_get t.types n

-- the type with this number, if there is a number
abbrev pub type_by : Tables → Option ℕ → Option IrType
type_by t (Some n) = type_at t n
type_by t None = None

-- the module's type that a spelled type stands for
abbrev pub spelled_type : Tables → ℕ → Option IrType
spelled_type t n = type_by t (slice_get t.numbers n)

-- both are there and equal
abbrev pub are_equal : Option ℕ → Option ℕ → Bool
are_equal (Some a) (Some b) = a == b
are_equal (Some a) None = false
are_equal None b = false

-- the class of the type with this number, if there is a number
abbrev pub class_by : Tables → Option ℕ → Option ℕ
class_by t (Some n) = slice_get t.classes n
class_by t None = None

-- a type of the module is the one that a spelled type stands for
abbrev pub is_spelled : Tables → ℕ → ℕ → Bool
is_spelled t ty spelled = are_equal (slice_get t.classes ty) (class_by t (slice_get t.numbers spelled))

-- the type has a size
abbrev pub is_sized : Tables → ℕ → Bool
is_sized t n = has_size_of t.types t.fields n

-- the type has a size of at most 2^40 bytes
abbrev pub is_fitting : List IrType → List ℕ → ℕ → Bool
is_fitting types fields n = has_size_of types fields n && nat_le (alloc_size_of types fields n) (2 ^ 40)

-- the alloc size of a type, 0 if it is above 2^40: a module that needs such a type is refused
abbrev pub counted_size : Tables → ℕ → ℕ
counted_size t n = if is_fitting t.types t.fields n then alloc_size_of t.types t.fields n else 0

-- ---- parts of types

-- an offset in a type, 0 if the type's size or the offset is above 2^40: a module that needs such a type is refused,
-- and in a type of at most 2^40 bytes no part begins after them
abbrev pub counted_offset : Tables → ℕ → ℕ → ℕ
counted_offset t ty offset = if is_fitting t.types t.fields ty && nat_le offset (2 ^ 40) then offset else 0

-- a struct's field, if it is there, at the field's offset
abbrev pub field_part : Tables → ℕ → ℕ → Option ℕ → Option TypePart
field_part t ty k (Some field) = Some (record { ty = field; offset = counted_offset t ty (field_offset_of t.types t.fields ty k) })
field_part t ty k None = None

-- part k of a type: an array's item, so many items after its start, or a struct's field
abbrev pub part_by : Tables → ℕ → ℕ → Option IrType → Option TypePart
part_by t ty k (Some (Array count item)) = Some (record { ty = item; offset = counted_offset t ty (k * counted_size t item) })
part_by t ty k (Some (Struct first count packed)) = field_part t ty k (slice_get (field_types t.fields first count) k)
part_by t ty k other = None

-- part k of the type with this number
abbrev pub part_of : Tables → ℕ → ℕ → Option TypePart
part_of t ty k = part_by t ty k (type_at t ty)

-- the type is an array of so many items
abbrev pub is_array_of : ℕ → Option IrType → Bool
is_array_of n (Some (Array count item)) = count == n
is_array_of n other = false

-- the type is a struct of so many fields, packed or not
abbrev pub is_struct_of : Bool → ℕ → Option IrType → Bool
is_struct_of wanted n (Some (Struct first count packed)) = (if packed then wanted else not wanted) && (count == n)
is_struct_of wanted n other = false

-- ---- integers

-- an integer lies from -2 ^ (width - 1) to 2 ^ width - 1, and the width from 1 to 128
abbrev pub is_in_width : ℕ → SpelledInteger → Bool
is_in_width width i =
    nat_le 1 width && nat_le width 128 && (if i.negative then nat_le i.magnitude (2 ^ (width - 1)) else nat_lt i.magnitude (2 ^ width))

-- an integer modulo 2 ^ width
abbrev pub integer_modulo : ℕ → SpelledInteger → ℕ
integer_modulo width i = if i.negative then (2 ^ width - i.magnitude) % 2 ^ width else i.magnitude

-- the value of an integer of so many bits, if it is in range
abbrev pub integer_in : ℕ → SpelledInteger → Option ℕ
integer_in width i = if is_in_width width i then Some (integer_modulo width i) else None

-- a value of so many bits, sign-extended or truncated to 64
abbrev pub in_64_bits : ℕ → Option ℕ → Option ℕ
in_64_bits width (Some n) = Some (unsigned_of 64 (signed_of width n))
in_64_bits width None = None

-- an integer of this type in 64 bits, if the type is an integer type and the integer is in range for it
abbrev pub index_by : Option IrType → SpelledInteger → Option ℕ
index_by (Some (Int width)) i = in_64_bits width (integer_in width i)
index_by other i = None

-- an integer of the type i32, if the type is that and the integer is in range for it
abbrev pub i32_by : Option IrType → SpelledInteger → Option ℕ
i32_by (Some (Int width)) i = if width == 32 then integer_in 32 i else None
i32_by other i = None
