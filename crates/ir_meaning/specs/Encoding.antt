-- How values lie in memory (LLVM Language Reference, "Data Layout", specification `e`: the least significant byte lies at the
-- lowest address). That bytes of pointers are pieces, and that no integer is read over them, is this project's choice.
use Rattle.std.specs.Prelude.{ℕ, ◌+◌, ◌%◌, ◌^◌, Bool, false, ◌&&◌, ◌==◌, if◌then◌else◌, List, [], ◌∷◌, map, Option, Some, None, option_map}
use Rattle.hw_base.specs.declared.pointers.Base.{Base}
use Rattle.hw_base.specs.declared.pointers.Base.TheVariants.{Null, Object}
use Rattle.hw_base.specs.declared.pointers.Obj.{Obj}
use Rattle.hw_base.specs.Bytes.{le_bytes, le_number}
use Rattle.ir_meaning.specs.Values.{Value, Address, SourceByte, Data, Piece}

-- the low bytes of a number, the least significant one first
abbrev pub number_bytes : ℕ → ℕ → List SourceByte
number_bytes count n = map (λ byte. Data byte) (le_bytes count n)

-- the eight pieces of a pointer into an object, in order
abbrev pub pointer_pieces : Obj → ℕ → List SourceByte
pointer_pieces o off =
    Piece o off 0 ∷ Piece o off 1 ∷ Piece o off 2 ∷ Piece o off 3 ∷ Piece o off 4 ∷ Piece o off 5 ∷ Piece o off 6 ∷ Piece o off 7 ∷ []

-- the bytes of a pointer: those of its offset if it is based on null, and else its pieces
unfoldable pub pointer_bytes : Base → (off : ℕ) → List SourceByte
pointer_bytes Null off = number_bytes 8 off
pointer_bytes (Object o) off = pointer_pieces o off

-- one more number in front, if the rest are numbers
abbrev pub number_before : ℕ → Option (List ℕ) → Option (List ℕ)
number_before n None = None
number_before n (Some ns) = Some (n ∷ ns)

-- the numbers of bytes, or none if one is a piece
unfoldable pub data_numbers : List SourceByte → Option (List ℕ)
data_numbers [] = Some []
data_numbers (Data n ∷ bytes) = number_before n (data_numbers bytes)
data_numbers (Piece o off j ∷ bytes) = None

-- the number of the bytes modulo 2 ^ width
abbrev pub number_of_width : ℕ → List ℕ → ℕ
number_of_width width ns = le_number ns % 2 ^ width

-- the integer of a width that bytes spell, or none over a piece of a pointer
unfoldable pub int_from : ℕ → List SourceByte → Option ℕ
int_from width bytes = option_map (number_of_width width) (data_numbers bytes)

abbrev pub same_object : Obj → Obj → Bool
same_object o p = (o.birth == p.birth) && (o.index == p.index)

-- the bytes are the pieces of one pointer in order, from number j to number 7
unfoldable pub are_pieces : Obj → ℕ → ℕ → List SourceByte → Bool
are_pieces o off j [] = j == 8
are_pieces o off j (Data n ∷ bytes) = false
are_pieces o off j (Piece p at i ∷ bytes) = same_object o p && ((off == at) && ((j == i) && are_pieces o off (j + 1) bytes))

-- the pointer that bytes spell: one based on null for eight numbers, the pointer for its eight pieces in order, and none for any other
-- mixture
unfoldable pub pointer_from : List SourceByte → Option Value
pointer_from [] = None
pointer_from (Data n ∷ bytes) = option_map (λ ns. Address Null (le_number ns)) (data_numbers (Data n ∷ bytes))
pointer_from (Piece o off j ∷ bytes) = if are_pieces o off 0 (Piece o off j ∷ bytes) then Some (Address (Object o) off) else None
