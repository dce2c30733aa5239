-- The place of a heap block: the least at which it lies wholly in the heap and overlaps no living block. This project's
-- choice.
use Rattle.std.specs.Prelude.{◌≡◌, ℕ, zero, suc, ◌+◌, ◌-◌, ◌/◌, ◌%◌, ◌≤◌, Bool, true, false, ◌&&◌, ◌||◌, nat_le, List, Option, Some, None}
use Rattle.std.specs.List.{list_all}

-- a range of addresses: its first, and how many bytes
pub record Span : Type 0 where
  pub at : ℕ
  pub size : ℕ

-- so many bytes from an address on don't overlap a range
abbrev pub is_apart : ℕ → ℕ → Span → Bool
is_apart address size span = nat_le (address + size) span.at || nat_le (span.at + span.size) address

-- they end by `end`, and overlap none of the ranges
abbrev pub is_place : List Span → ℕ → ℕ → ℕ → Bool
is_place spans size end address = nat_le (address + size) end && list_all (is_apart address size) spans

-- the first place from an address on in steps of 16 bytes, of so many that are tried
unfoldable pub first_place : List Span → ℕ → ℕ → ℕ → ℕ → Option ℕ
first_place spans size end zero address = None
first_place spans size end (suc tries) address =
    elim (is_place spans size end address) [
      | true ↦ Some address
      | false ↦ first_place spans size end tries (address + 16)
    ]

-- The least place for so many bytes, 16 at least, between `from` and `end`, or none where there is none. As many are tried
-- as there are granules.
abbrev pub least_fit : List Span → ℕ → ℕ → ℕ → Option ℕ
least_fit spans size from end = first_place spans size end ((end - from) / 16) from

-- an address is a place for so many bytes between `from` and `end`, in steps of 16 bytes
pub record IsPlace (spans : List Span) (size from end address : ℕ) : Type 0 where
  pub low : from ≤ address
  pub in_steps : (address - from) % 16 ≡ 0
  pub fits : is_place spans size end address ≡ true

-- it is the least one
pub record IsLeastPlace (spans : List Span) (size from end address : ℕ) : Type 0 where
  pub place : IsPlace spans size from end address
  pub least : (other : ℕ) → IsPlace spans size from end other → address ≤ other
