-- The addresses that constants spell (LLVM Language Reference, "Global Variable and Function Addresses" and "Constant
-- Expressions", "getelementptr").
use Rattle.std.specs.Prelude.{ℕ, zero, suc, ◌+◌, ◌*◌, ◌%◌, ◌^◌, if◌then◌else◌, List, [], ◌∷◌, fold, slice_get, Option, Some, None}
use Rattle.ir_core.specs.declared.types.IrType.{IrType}
use Rattle.ir_core.specs.declared.types.IrType.TheVariants.{Array, Struct}
use Rattle.ir_grammar.specs.declared.spelled.SpelledConstant.{SpelledConstant}
use Rattle.ir_grammar.specs.declared.spelled.SpelledConstant.TheVariants as constants
use Rattle.ir_grammar.specs.declared.spelled.TypedIndex.{TypedIndex}
use Rattle.ir_first_values.specs.declared.addresses.Address.{Address}
use Rattle.ir_first_values.specs.declared.parts.TypePart.{TypePart}
use Rattle.ir_first_values.specs.Tables.{Tables, items_from, type_at, spelled_type, is_sized, counted_size, part_of, index_by, i32_by}

-- null
abbrev pub null_address : Address
null_address = record { variable = None; offset = 0 }

-- the start of a variable, if the constant names one
abbrev pub variable_address : Option (Option ℕ) → Option Address
variable_address (Some (Some g)) = Some (record { variable = Some g; offset = 0 })
variable_address (Some None) = None
variable_address None = None

-- so many values of a type after a place, modulo 2^64
abbrev pub scaled_by : Tables → ℕ → Option ℕ → Option TypePart
scaled_by t ty (Some n) = Some (record { ty = ty; offset = n * counted_size t ty % 2 ^ 64 })
scaled_by t ty None = None

-- so many values of a type, by an index
abbrev pub scaled : Tables → ℕ → TypedIndex → Option TypePart
scaled t ty i = scaled_by t ty (index_by (spelled_type t i.ty) i.value)

-- the field with this number, if there is a number
abbrev pub field_by : Tables → ℕ → Option ℕ → Option TypePart
field_by t ty (Some k) = part_of t ty k
field_by t ty None = None

-- the step of an index into a type: to an item of an array, or to a field of a struct, which an i32 names
abbrev pub step_by : Tables → ℕ → TypedIndex → Option IrType → Option TypePart
step_by t ty i (Some (Array count item)) = scaled t item i
step_by t ty i (Some (Struct first count packed)) = field_by t ty (i32_by (spelled_type t i.ty) i.value)
step_by t ty i other = None

-- a step from a place in a type, whose offset is added modulo 2^64
abbrev pub onward : ℕ → Option TypePart → Option TypePart
onward offset (Some part) = Some (record { ty = part.ty; offset = (offset + part.offset) % 2 ^ 64 })
onward offset None = None

-- the place that an index leads to from this one
abbrev pub stepped : Tables → Option TypePart → TypedIndex → Option TypePart
stepped t (Some place) i = onward place.offset (step_by t place.ty i (type_at t place.ty))
stepped t None i = None

-- where indices lead in a type, which needs a size: the first one counts values of the type, each further one steps into
-- the type so far
abbrev pub place_of : Tables → Option ℕ → TypedIndex → List TypedIndex → Option TypePart
place_of t (Some ty) i rest = if is_sized t ty then fold (stepped t) (scaled t ty i) rest else None
place_of t None i rest = None

-- an address with an offset added modulo 2^64
abbrev pub moved : Option Address → Option TypePart → Option Address
moved (Some a) (Some place) = Some (record { variable = a.variable; offset = (a.offset + place.offset) % 2 ^ 64 })
moved (Some a) None = None
moved None place = None

-- an address with indices into a spelled type: without any it is the base
abbrev pub indexed : Tables → ℕ → List TypedIndex → Option Address → Option Address
indexed t of [] base = base
indexed t of (i ∷ rest) base = moved base (place_of t (slice_get t.numbers of) i rest)

-- the address that a constant without brackets spells: a variable or null
abbrev pub plain_address : Tables → ℕ → SpelledConstant → Option Address
plain_address t c (constants.Global name) = variable_address (slice_get t.variables c)
plain_address t c constants.Null = Some null_address
plain_address t c constants.Zero = Some null_address
plain_address t c other = None

-- the same, or a `getelementptr` on an address that is inside its brackets
abbrev pub address_by : Tables → (ℕ → Option Address) → ℕ → SpelledConstant → Option Address
address_by t inside c (constants.Address of base first count) = indexed t of (items_from first count t.indices) (inside base)
address_by t inside c other = plain_address t c other

-- the constant with this number, if it is there
abbrev pub if_there : {A : Type 0} → Option SpelledConstant → (SpelledConstant → Option A) → Option A
if_there (Some constant) go = go constant
if_there None go = None

-- the address that a constant spells, with so many brackets within one another at most
unfoldable pub address_of : ℕ → Tables → ℕ → Option Address
address_of zero t c = if_there (slice_get t.constants c) (plain_address t c)
address_of (suc levels) t c = if_there (slice_get t.constants c) (address_by t (address_of levels t) c)
