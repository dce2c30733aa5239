-- The tables of a heap: its free ranges, as what its living blocks leave, and the table of living blocks. This project's choice.
use Rattle.std.specs.Prelude.{◌≡◌, ℕ, ◌+◌, ◌-◌, ◌/◌, ◌%◌, ◌≤◌, ◌==◌, ◌&&◌, nat_le, nat_lt, if◌then◌else◌, List, [], ◌∷◌, Option, Some, None, ⊤}
use Rattle.hw_base.specs.AddressMap.{rounded_size}
use Rattle.hw_holes.specs.declared.ranges.FreeRange.{FreeRange}
use Rattle.tag_alloc.specs.declared.blocks.Block.{Block}

-- the address after a block's last granule
abbrev pub end_of : Block → ℕ
end_of block = block.at + rounded_size block.size

-- blocks within bounds, in order of place, each at a multiple of 16, and none overlaps the next
abbrev pub AreInOrder : (low high : ℕ) → List Block → Type 0
AreInOrder low high [] = low ≤ high
AreInOrder low high (block ∷ blocks) = (low ≤ block.at) × (block.at % 16 ≡ 0) × AreInOrder (end_of block) high blocks

-- a range before others, unless it is empty
abbrev pub range_before : (from to : ℕ) → List FreeRange → List FreeRange
range_before from to ranges = if nat_lt from to then record { from = from; to = to } ∷ ranges else ranges

-- the ranges between blocks in order, from one address up to another
abbrev pub gaps : (low high : ℕ) → List Block → List FreeRange
gaps low high [] = range_before low high []
gaps low high (block ∷ blocks) = range_before low block.at (gaps (end_of block) high blocks)

-- ---- the table of living blocks: an entry a granule, which has the block that begins there

-- the living blocks in order of place, and the bounds of the heap
pub record BlocksState : Type 0 where
  pub blocks : List Block
  pub low : ℕ
  pub high : ℕ

-- the blocks of entries
abbrev pub blocks_of : List (Option Block) → List Block
blocks_of [] = []
blocks_of (None ∷ entries) = blocks_of entries
blocks_of (Some block ∷ entries) = block ∷ blocks_of entries

-- the block of an entry begins at an address
abbrev pub IsAt : ℕ → Option Block → Type 0
IsAt at None = ⊤
IsAt at (Some block) = block.at ≡ at

-- the blocks of entries begin at their granules, of which the first has an address
abbrev pub AreAt : ℕ → List (Option Block) → Type 0
AreAt at [] = ⊤
AreAt at (entry ∷ entries) = IsAt at entry × AreAt (at + 16) entries

-- the number of the entry of an address, or none if no granule begins there
abbrev pub entry_number : (low address : ℕ) → Option ℕ
entry_number low address = if nat_le low address && ((address - low) % 16 == 0) then Some ((address - low) / 16) else None
