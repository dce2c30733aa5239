-- The heap of a run as contracts see it, and what its tables keep. This project's choice.
use Rattle.std.specs.Prelude.{◌≡◌, ℕ, ◌+◌, ◌-◌, ◌%◌, ◌^◌, ◌≤◌, List, [], ◌∷◌, map, Option, Some, None, Result, Ok, Err, ⊤}
use Rattle.free_ring.specs.Kept.{Kept}
use Rattle.hw_holes.specs.FreeRanges.{HolesState, free_bytes}
use Rattle.tag_alloc.specs.declared.blocks.Freed.{Freed}
use Rattle.tag_alloc.specs.HeapBlocks.{HeapState}
use Rattle.tag_alloc.specs.HeapTables.{AreInOrder, BlocksState, gaps}

-- the state of the heap, and for how many deaths there is room
pub record HeapView : Type 0 where
  pub state : HeapState
  pub deaths : ℕ

-- what is kept of each task's freed blocks
abbrev pub kept_of : List (Kept Freed) → List (List Freed)
kept_of rings = map (λ ring. ring.kept) rings

-- the state that tables of blocks, of free ranges and of freed blocks make
abbrev pub view_of : BlocksState → HolesState → (living_size : ℕ) → List (Kept Freed) → (ring : ℕ) → HeapView
view_of table holes living_size rings ring =
    record {
      state = record {
        from = table.low;
        end = table.high;
        living = table.blocks;
        living_size = living_size;
        freed = kept_of rings;
        ring = ring;
      };
      deaths = holes.spare;
    }

-- each ring keeps at most so many
abbrev pub KeepAtMost : ℕ → List (Kept Freed) → Type 0
KeepAtMost size [] = ⊤
KeepAtMost size (ring ∷ rings) = (ring.size ≡ size) × KeepAtMost size rings

-- The heap is whole granules below 2^32. The living blocks are in order in it, the free ranges are the gaps between them,
-- and all bytes are either living or free.
pub record AreTables (table : BlocksState) (holes : HolesState) (living_size : ℕ) : Type 0 where
  pub low_in_steps : table.low % 16 ≡ 0
  pub high_in_steps : table.high % 16 ≡ 0
  pub high : table.high ≤ 2 ^ 32
  pub order : AreInOrder table.low table.high table.blocks
  pub ranges : holes.ranges ≡ gaps table.low table.high table.blocks
  pub holes_low : holes.low ≡ table.low
  pub holes_high : holes.high ≡ table.high
  pub size : living_size + free_bytes holes.ranges ≡ table.high - table.low

-- a result, unless there is an error
abbrev pub ok_unless : {A E : Type 0} → Option E → A → Result A E
ok_unless None a = Ok a
ok_unless (Some e) a = Err e
