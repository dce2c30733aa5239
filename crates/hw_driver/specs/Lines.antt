-- The closing text goes out line by line.
use Rattle.std.specs.Prelude.{◌≡◌, ◌≢◌, ℕ, ◌+◌, ◌-◌, ◌<◌, List, ◌++◌, length, drop, slice_index, All, Option, Some, None, ⊤}

-- Known pieces grow by pieces that are so.
pub record Grew (P : List ℕ → Type 0) (old new : List (List ℕ)) : Type 0 where
  pub given : List (List ℕ)
  pub grown : new ≡ old ++ given
  pub each : All P given

abbrev pub GivesEach : (List ℕ → Type 0) → Option (List (List ℕ)) → Option (List (List ℕ)) → Type 0
GivesEach P None new = ⊤
GivesEach P (Some old) None = ⊥
GivesEach P (Some old) (Some new) = Grew P old new

-- a line, or the rest of one: its last byte is LF, and no other
pub record IsLine (piece : List ℕ) : Type 0 where
  pub ends : slice_index piece (length piece - 1) ≡ 10
  pub once : (k : ℕ) → k + 1 < length piece → slice_index piece k ≢ 10

-- a text of whole lines
abbrev pub EndsAtLf : List ℕ → Type 0
EndsAtLf text = 0 < length text → slice_index text (length text - 1) ≡ 10

-- what is left of a text from some byte on
pub record IsRest (text piece : List ℕ) : Type 0 where
  pub from : ℕ
  pub within : from < length text
  pub rest : piece ≡ drop from text
