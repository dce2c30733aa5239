-- How long the blanks and comments at the front are, and how a place moves over bytes.
use Rattle.std.specs.Prelude.{ℕ, List, [], ◌∷◌, Bool, not, ◌||◌, ◌+◌, ◌==◌, if◌then◌else◌}
use Rattle.ir_core.specs.Spelling.{line_feed}
use Rattle.ir_core.specs.Tokenisation.{is_separator, semicolon, ends_line}
use Rattle.ir_core.specs.declared.refusals.Place.{Place}

-- whether the byte after this one is in a comment, from whether this one is
abbrev pub goes_on : Bool → ℕ → Bool
goes_on comment b = if comment then not (b == line_feed) else b == semicolon

-- how many bytes at the front separate tokens; the first is in a comment or not
abbrev pub gap_length : Bool → List ℕ → ℕ
gap_length comment [] = 0
gap_length comment (b ∷ text) = if comment || is_separator b then 1 + gap_length (goes_on comment b) text else 0

-- the place after one more byte
unfoldable pub place_over : Place → ℕ → Place
place_over place b = if ends_line b then record { line = place.line + 1; column = 1 } else record { line = place.line; column = place.column + 1 }
