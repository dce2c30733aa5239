-- The types of values whose type isn't spelled, as that of a comparison (LLVM Language Reference, "Instruction Reference"):
-- they come after the spelled types in the module's list. This project's choice.
use Rattle.std.specs.Prelude.{ℕ, ◌+◌, ◌==◌, nat_le, Bool, if◌then◌else◌, List, [], ◌∷◌, ◌++◌, map, Option, Some, None}
use Rattle.std.specs.List.{range_with_len}
use Rattle.ir_core.specs.declared.types.IrType.{IrType}
use Rattle.ir_core.specs.declared.types.IrType.TheVariants.{Void, Int, Ptr, Pair}

-- `ptr`, `void`, the integers of 1 to 128 bits, and the pairs of one of them and an `i1`
abbrev pub given_types : List IrType
given_types = Ptr ∷ Void ∷ (map Int (range_with_len 1 128) ++ map Pair (range_with_len 1 128))

-- their numbers, after so many spelled types
abbrev pub pointer_number : (spelled : ℕ) → ℕ
pointer_number spelled = spelled

abbrev pub void_number : (spelled : ℕ) → ℕ
void_number spelled = spelled + 1

abbrev pub integer_number : (spelled width : ℕ) → ℕ
integer_number spelled width = spelled + 1 + width

abbrev pub pair_number : (spelled width : ℕ) → ℕ
pair_number spelled width = spelled + 129 + width

-- the width is one of those above
abbrev pub is_given_width : ℕ → Bool
is_given_width width = nat_le width 128

-- the number of the pair of an integer of this type and an `i1`, or else that of `void`
abbrev pub pair_of : (spelled : ℕ) → Option IrType → ℕ
pair_of spelled (Some (Int width)) = if is_given_width width then pair_number spelled width else void_number spelled
pair_of spelled other = void_number spelled

-- the number of the type of part 0 or 1 of a pair of an integer of so many bits and an `i1`
abbrev pub part_number : (spelled part width : ℕ) → ℕ
part_number spelled part width = if part == 0 then integer_number spelled width else integer_number spelled 1

-- the number of the type of a part of such a pair, by the integer's type
abbrev pub part_of : (spelled : ℕ) → Option ℕ → Option IrType → ℕ
part_of spelled None other = void_number spelled
part_of spelled (Some part) (Some (Int width)) = if is_given_width width then part_number spelled part width else void_number spelled
part_of spelled (Some part) other = void_number spelled
