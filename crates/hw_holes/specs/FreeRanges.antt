-- The free ranges of a heap: sorted, apart, and none of them empty. A block takes the front of the first range that it
-- fits into, which is the lowest place for it. This project's choice.
use Rattle.std.specs.Prelude.{◌≡◌, ◌⊎◌, ℕ, suc, ◌+◌, ◌-◌, ◌%◌, ◌<◌, ◌≤◌, nat_eq, nat_le, nat_lt, if◌then◌else◌, Bool, List, [], ◌∷◌, ◌++◌, Option, Some, None, ⊤}
use Rattle.hw_holes.specs.declared.ranges.FreeRange.{FreeRange}

-- the free ranges, how many more there is room for, and the bounds of the heap
pub record HolesState : Type 0 where
  pub ranges : List FreeRange
  pub spare : ℕ
  pub low : ℕ
  pub high : ℕ

-- a range lies within bounds, isn't empty, and begins and ends at multiples of 16
pub record IsFreeRange (low high : ℕ) (range : FreeRange) : Type 0 where
  pub above_low : low ≤ range.from
  pub not_empty : range.from < range.to
  pub below_high : range.to ≤ high
  pub from_in_steps : range.from % 16 ≡ 0
  pub to_in_steps : range.to % 16 ≡ 0

-- ranges within bounds, sorted, of which no two touch
abbrev pub AreApart : (low high : ℕ) → List FreeRange → Type 0
AreApart low high [] = ⊤
AreApart low high (range ∷ rest) = IsFreeRange low high range × AreApart (suc range.to) high rest

-- so many bytes from an address on overlap none of the ranges
abbrev pub IsNotFree : (at size : ℕ) → List FreeRange → Type 0
IsNotFree at size [] = ⊤
IsNotFree at size (range ∷ rest) = ((at + size ≤ range.from) ⊎ (range.to ≤ at)) × IsNotFree at size rest

-- a range has at least so many bytes
abbrev pub fits : ℕ → FreeRange → Bool
fits size range = nat_le (range.from + size) range.to

-- the lowest place for so many bytes
abbrev pub place_for : ℕ → List FreeRange → Option ℕ
place_for size [] = None
place_for size (range ∷ rest) = if fits size range then Some range.from else place_for size rest

-- a range without its first bytes, if anything is left of it
abbrev pub without_front : ℕ → FreeRange → List FreeRange
without_front size range = if nat_eq (range.from + size) range.to then [] else record { from = range.from + size; to = range.to } ∷ []

-- the first range that fits loses its front
abbrev pub taken : ℕ → List FreeRange → List FreeRange
taken size [] = []
taken size (range ∷ rest) = if fits size range then without_front size range ++ rest else range ∷ taken size rest

-- a range before later ones, joined with the first of them if they touch
abbrev pub joined : (from to : ℕ) → List FreeRange → List FreeRange
joined from to [] = record { from = from; to = to } ∷ []
joined from to (next ∷ rest) = if nat_eq next.from to then record { from = from; to = next.to } ∷ rest else record { from = from; to = to } ∷ next ∷ rest

-- so many bytes from an address on are free too: a new range, joined with those that it touches
abbrev pub given : (at size : ℕ) → List FreeRange → List FreeRange
given at size [] = record { from = at; to = at + size } ∷ []
given at size (range ∷ rest) =
    if nat_lt range.to at then range ∷ given at size rest
    else if nat_eq range.to at then joined range.from (at + size) rest
    else joined at (at + size) (range ∷ rest)

-- how many ranges come before the first that fits
abbrev pub first_fit : ℕ → List FreeRange → ℕ
first_fit size [] = 0
first_fit size (range ∷ rest) = if fits size range then 0 else suc (first_fit size rest)

-- how many ranges end before an address
abbrev pub first_reaching : ℕ → List FreeRange → ℕ
first_reaching at [] = 0
first_reaching at (range ∷ rest) = if nat_le at range.to then 0 else suc (first_reaching at rest)

-- how many bytes are free
abbrev pub free_bytes : List FreeRange → ℕ
free_bytes [] = 0
free_bytes (range ∷ rest) = (range.to - range.from) + free_bytes rest

-- so many bytes from an address on lie in one of the ranges
abbrev pub IsFree : (at size : ℕ) → List FreeRange → Type 0
IsFree at size [] = ⊥
IsFree at size (range ∷ rest) = ((range.from ≤ at) × (at + size ≤ range.to)) ⊎ IsFree at size rest
