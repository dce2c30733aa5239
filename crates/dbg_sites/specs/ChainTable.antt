-- Chains of sites by numbers. The empty chain is 0, and the chain with number n + 1 is entry n of a table: its front site, the
-- innermost, and the number of the rest, which is smaller. Equal chains have one number. This project's choice.
use Rattle.std.specs.Prelude.{◌≡◌, ℕ, zero, suc, ◌+◌, ◌≤◌, Bool, true, false, ◌&&◌, ◌==◌, List, [], ◌∷◌, ◌++◌, length, Option, Some, None, slice_get}
use Rattle.hw_base.specs.declared.pointers.Site.{Site}

-- a chain that isn't empty: its front site, and the number of the rest
pub record ChainEntry : Type 0 where
  pub site : Site
  pub rest : ℕ

-- the entry is this site in front of this chain
abbrev pub is_entry : Site → ℕ → ChainEntry → Bool
is_entry site rest entry = entry.site.func == site.func && entry.site.inst == site.inst && entry.rest == rest

-- the place of an entry in a table from this place on, or none if it isn't there
unfoldable pub entry_from : List ChainEntry → Site → (rest place : ℕ) → Option ℕ
entry_from [] site rest place = None
entry_from (entry ∷ table) site rest place =
    elim (is_entry site rest entry) [ true ↦ Some place | false ↦ entry_from table site rest (place + 1) ]

-- a table and the number of a chain in it
pub record Numbered : Type 0 where
  pub table : List ChainEntry
  pub number : ℕ

-- the table if the entry is at this place, or else the table with the entry after the others
abbrev pub numbered : List ChainEntry → Site → ℕ → Option ℕ → Numbered
numbered table site rest (Some place) = record { table = table; number = place + 1 }
numbered table site rest None =
    record { table = table ++ record { site = site; rest = rest } ∷ []; number = length table + 1 }

-- the chain with a site in front of another chain
unfoldable pub pushed : List ChainEntry → ℕ → Site → Numbered
pushed table rest site = numbered table site rest (entry_from table site rest 0)

-- the front site and the rest of a chain, or none of the empty one
abbrev pub part_of : List ChainEntry → ℕ → Option ChainEntry
part_of table zero = None
part_of table (suc place) = slice_get table place

-- the sites of a chain, innermost first, of so many at most
unfoldable pub chain_within : List ChainEntry → (most number : ℕ) → List Site
chain_within table zero number = []
chain_within table (suc most) number =
    elim (part_of table number) [ None ↦ [] | Some entry ↦ entry.site ∷ chain_within table most entry.rest ]

-- the sites of a chain; since the rest has a smaller number, there are no more of them than the number says
abbrev pub chain_of : List ChainEntry → ℕ → List Site
chain_of table number = chain_within table number number

-- each entry's rest is an earlier one, and no two entries are equal
pub record IsChainTable (table : List ChainEntry) : Type 0 where
  pub earlier : (i : ℕ) (entry : ChainEntry) → slice_get table i ≡ Some entry → entry.rest ≤ i
  pub once : (i j : ℕ) (entry : ChainEntry) → slice_get table i ≡ Some entry → slice_get table j ≡ Some entry → i ≡ j
