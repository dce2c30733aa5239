-- The counter of unnamed parameters, blocks and results, as the decimal digits of its number from the lowest on, without
-- zeros after the highest (LLVM Language Reference, "Identifiers"). Numbers have any length.
use Rattle.std.specs.Prelude.{ℕ, ◌+◌, ◌*◌, ◌-◌, ◌==◌, nat_lt, Bool, true, false, if◌then◌else◌, List, [], ◌∷◌, reverse}
use Rattle.ir_text.specs.TokenText.{significant}

-- one more
abbrev pub next : List ℕ → List ℕ
next [] = 49 ∷ []
next (d ∷ ds) = if nat_lt d 57 then (d + 1) ∷ ds else 48 ∷ next ds

-- the digits of a written number, from the lowest on
abbrev pub low_digits : List ℕ → List ℕ
low_digits text = reverse (significant text)

-- the number that digits write, from the lowest on
abbrev pub digits_number : List ℕ → ℕ
digits_number [] = 0
digits_number (d ∷ ds) = d - 48 + 10 * digits_number ds

-- One number is below another, by their digits from the lowest on: of two lengths the longer one is the greater, and of one
-- length the highest digit in which they differ decides, or, if there is none, what was so before them.
abbrev pub is_less_behind : Bool → List ℕ → List ℕ → Bool
is_less_behind before [] [] = before
is_less_behind before [] (e ∷ es) = true
is_less_behind before (d ∷ ds) [] = false
is_less_behind before (d ∷ ds) (e ∷ es) = is_less_behind (if d == e then before else nat_lt d e) ds es

-- the same for whole numbers
abbrev pub is_less : List ℕ → List ℕ → Bool
is_less digits others = is_less_behind false digits others
