-- The first value of a global variable, as pieces of bytes: what its initializer spells as a value of its type (LLVM
-- Language Reference, "Constants"). A constant that breaks a rule has no value.
use Rattle.std.specs.Prelude.{ℕ, zero, suc, ◌+◌, ◌*◌, ◌/◌, ◌==◌, ◌&&◌, Bool, false, if◌then◌else◌, List, [], ◌∷◌, ◌++◌, take, drop, length, slice_get, Option, Some, None}
use Rattle.ir_core.specs.declared.types.IrType.{IrType}
use Rattle.ir_core.specs.declared.types.IrType.TheVariants.{Int, Ptr, Array}
use Rattle.ir_core.specs.declared.operands.Operand.{Operand}
use Rattle.ir_core.specs.declared.operands.Operand.TheVariants.{Int as Number, Null, Global}
use Rattle.ir_core.specs.declared.operands.Part.{Part}
use Rattle.ir_core.specs.declared.token.Token.{Token}
use Rattle.ir_core.specs.Layout.{int_store_size}
use Rattle.ir_core.specs.Tokens.{bytes_of}
use Rattle.ir_text.specs.TokenText.{string_bytes_of}
use Rattle.ir_grammar.specs.declared.spelled.SpelledConstant.{SpelledConstant}
use Rattle.ir_grammar.specs.declared.spelled.SpelledConstant.TheVariants as constants
use Rattle.ir_grammar.specs.declared.spelled.TypedConstant.{TypedConstant}
use Rattle.ir_first_values.specs.declared.addresses.Address.{Address}
use Rattle.ir_first_values.specs.declared.parts.TypePart.{TypePart}
use Rattle.ir_first_values.specs.Tables.{Tables, items_from, type_at, is_spelled, is_sized, part_of, is_array_of, is_struct_of, integer_in}
use Rattle.ir_first_values.specs.Addresses.{address_of, if_there}

-- ---- constants without parts

-- so many bytes from `at` on
abbrev pub piece : ℕ → ℕ → Operand → List Part
piece at size value = record { at = at; size = size; value = value } ∷ []

-- a number of so many bits takes the store size of its type
abbrev pub number_piece : ℕ → ℕ → Option ℕ → Option (List Part)
number_piece at width (Some n) = Some (piece at (int_store_size width) (Number n))
number_piece at width None = None

-- an integer is a value of an integer type that it is in range for
abbrev pub integer_value : ℕ → Option IrType → (ℕ → Option ℕ) → Option (List Part)
integer_value at (Some (Int width)) value = number_piece at width (value width)
integer_value at other value = None

-- `true` and `false` are 1 and 0 of i1
abbrev pub bool_in : Bool → ℕ → Option ℕ
bool_in b width = if width == 1 then Some (if b then 1 else 0) else None

-- an address as an operand: so many bytes after a variable's start or after null, or null
abbrev pub operand_of : Option ℕ → ℕ → Operand
operand_of (Some g) offset = Global g offset
operand_of None offset = if offset == 0 then Null else Number offset

-- an address is a value of the type `ptr`
abbrev pub address_value : ℕ → Option IrType → Option Address → Option (List Part)
address_value at (Some Ptr) (Some a) = Some (piece at 8 (operand_of a.variable a.offset))
address_value at (Some Ptr) None = None
address_value at other a = None

-- `undef`, `poison` and `zeroinitializer` are bytes 0 of any type with a size
abbrev pub zero_value : Tables → ℕ → Option (List Part)
zero_value t ty = if is_sized t ty then Some [] else None

-- ---- byte strings

-- the type is i8
abbrev pub is_i8 : Option IrType → Bool
is_i8 (Some (Int width)) = width == 8
is_i8 other = false

-- the type is an array of so many i8
abbrev pub is_i8_array_of : Tables → ℕ → Option IrType → Bool
is_i8_array_of t n (Some (Array count item)) = (count == n) && is_i8 (type_at t item)
is_i8_array_of t n other = false

-- the number that some bytes make, the lowest first
abbrev pub little_endian : List ℕ → ℕ
little_endian [] = 0
little_endian (b ∷ bytes) = b + 256 * little_endian bytes

-- bytes in one piece, if there are any
abbrev pub bytes_piece : ℕ → List ℕ → List Part
bytes_piece at [] = []
bytes_piece at (b ∷ bytes) = piece at (length (b ∷ bytes)) (Number (little_endian (b ∷ bytes)))

-- so many pieces of 16 bytes each, and one of what is left
abbrev pub string_pieces : ℕ → ℕ → List ℕ → List Part
string_pieces zero at bytes = bytes_piece at bytes
string_pieces (suc n) at bytes = bytes_piece at (take 16 bytes) ++ string_pieces n (at + 16) (drop 16 bytes)

-- bytes are a value of an array of as many i8
abbrev pub bytes_value : Tables → ℕ → ℕ → List ℕ → Option (List Part)
bytes_value t ty at bytes = if is_i8_array_of t (length bytes) (type_at t ty) then Some (string_pieces (length bytes / 16) at bytes) else None

-- the bytes that a byte string stands for: those of the string after its `c`
abbrev pub string_of : Tables → Token → List ℕ
string_of t name = string_bytes_of (drop 1 (bytes_of t.source name))

-- a constant without elements
abbrev pub flat_value : Tables → ℕ → ℕ → ℕ → ℕ → SpelledConstant → Option (List Part)
flat_value t levels ty c at (constants.Integer i) = integer_value at (type_at t ty) (λ width. integer_in width i)
flat_value t levels ty c at (constants.Bool b) = integer_value at (type_at t ty) (bool_in b)
flat_value t levels ty c at constants.Zero = zero_value t ty
flat_value t levels ty c at (constants.Bytes name) = bytes_value t ty at (string_of t name)
flat_value t levels ty c at constants.Null = address_value at (type_at t ty) (address_of levels t c)
flat_value t levels ty c at (constants.Global name) = address_value at (type_at t ty) (address_of levels t c)
flat_value t levels ty c at (constants.Address of base first count) = address_value at (type_at t ty) (address_of levels t c)
flat_value t levels ty c at other = None

-- ---- arrays and structs

-- both, one after the other
abbrev pub joined : Option (List Part) → Option (List Part) → Option (List Part)
joined (Some xs) (Some ys) = Some (xs ++ ys)
joined (Some xs) None = None
joined None ys = None

-- an element, spelled with the type of this part, is a value of it at its place
abbrev pub element_by : Tables → (ℕ → ℕ → ℕ → Option (List Part)) → ℕ → TypedConstant → Option TypePart → Option (List Part)
element_by t inside at e (Some part) = if is_spelled t part.ty e.ty then inside part.ty e.value (at + part.offset) else None
element_by t inside at e None = None

-- elements from part k of a type on
abbrev pub elements_value : Tables → (ℕ → ℕ → ℕ → Option (List Part)) → ℕ → ℕ → ℕ → List TypedConstant → Option (List Part)
elements_value t inside ty at k [] = Some []
elements_value t inside ty at k (e ∷ es) = joined (element_by t inside at e (part_of t ty k)) (elements_value t inside ty at (suc k) es)

-- elements of an array or struct, if the type is one of as many
abbrev pub elements_of : Tables → (ℕ → ℕ → ℕ → Option (List Part)) → ℕ → ℕ → Bool → List TypedConstant → Option (List Part)
elements_of t inside ty at fits es = if fits then elements_value t inside ty at 0 es else None

-- a constant, whose elements are inside its brackets
abbrev pub nested_value : Tables → (ℕ → ℕ → ℕ → Option (List Part)) → ℕ → ℕ → ℕ → ℕ → SpelledConstant → Option (List Part)
nested_value t inside levels ty c at (constants.Array first count) =
    elements_of t inside ty at (is_array_of (length (items_from first count t.elements)) (type_at t ty)) (items_from first count t.elements)
nested_value t inside levels ty c at (constants.Struct first count packed) =
    elements_of t inside ty at (is_struct_of packed (length (items_from first count t.elements)) (type_at t ty)) (items_from first count t.elements)
nested_value t inside levels ty c at other = flat_value t levels ty c at other

-- the pieces of a constant as a value of a type, from byte `at` on, with so many brackets within one another at most
unfoldable pub first_value : ℕ → Tables → ℕ → ℕ → ℕ → Option (List Part)
first_value zero t ty c at = if_there (slice_get t.constants c) (flat_value t zero ty c at)
first_value (suc levels) t ty c at = if_there (slice_get t.constants c) (nested_value t (first_value levels t) (suc levels) ty c at)
