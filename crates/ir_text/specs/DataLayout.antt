-- Which data layouts are taken: those that are little-endian, have pointers of 64 bits, and align the integers of 1 to 128
-- bits as this program does (LLVM Language Reference, "Data Layout"). Which are taken is this project's choice.
use Rattle.std.specs.Prelude.{ℕ, List, [], ◌∷◌, Bool, true, not, ◌*◌, ◌==◌, ◌||◌, ◌&&◌, nat_le, if◌then◌else◌, codes}
use Rattle.std.specs.List.{list_all, slice_split}
use Rattle.std.specs.Str.{bytes_eq}
use Rattle.ir_core.specs.Spelling.{colon, minus}
use Rattle.ir_core.specs.Layout.{int_align}
use Rattle.ir_text.specs.TokenText.{small_number, string_bytes_of}

-- the field names the pointers of address space 0, by its number or without it
abbrev pub is_pointer_field : List ℕ → Bool
is_pointer_field name = bytes_eq name (codes "p") || bytes_eq name (codes "p0")

-- integers of so many bits have this alignment in bits, or are no integers of this program
abbrev pub is_alignment_taken : ℕ → ℕ → Bool
is_alignment_taken width alignment = if nat_le 1 width && nat_le width 128 then alignment == 8 * int_align width else true

-- what stands second is taken behind a field that isn't a pointer's: behind `i` and a width it is an alignment
abbrev pub is_second_taken : List ℕ → List ℕ → Bool
is_second_taken [] second = true
is_second_taken (b ∷ digits) second = if b == 105 then is_alignment_taken (small_number digits) (small_number second) else true

-- what stands second is taken behind a field that says whose it is
abbrev pub is_pair_taken : List ℕ → List ℕ → Bool
is_pair_taken name second = if is_pointer_field name then small_number second == 64 else is_second_taken name second

-- a part with these fields is taken: big-endian by itself is not
abbrev pub are_fields_taken : List (List ℕ) → Bool
are_fields_taken [] = true
are_fields_taken (name ∷ []) = not (bytes_eq name (codes "E"))
are_fields_taken (name ∷ second ∷ rest) = is_pair_taken name second

-- the fields of a part stand between its colons
abbrev pub is_part_taken : List ℕ → Bool
is_part_taken part = are_fields_taken (slice_split (λ b. b == colon) part)

-- the data layout that a string token writes is taken. Its parts stand between the `-`
abbrev pub is_layout_taken : List ℕ → Bool
is_layout_taken bytes = list_all is_part_taken (slice_split (λ b. b == minus) (string_bytes_of bytes))
