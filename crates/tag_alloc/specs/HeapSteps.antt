-- Births and deaths of heap blocks, with their tags and memory (Clang, "Hardware-assisted AddressSanitizer Design
-- Documentation", "Heap"; that a block is zero at birth is this project's choice). A birth draws one tag word if there is a
-- place, and a death draws one.
use Rattle.std.specs.Prelude.{ℕ, ◌+◌, ◌-◌, List, ◌∷◌, Some, None, take, slice_set, Result, Ok, Err}
use Rattle.hw_base.specs.declared.endings.Full.{Full}
use Rattle.hw_base.specs.AddressMap.{rounded_size}
use Rattle.hw_tags.specs.Tag.{heap_tag_of, free_tag_of}
use Rattle.tbi_memory.specs.AddressSpace.{AddressSpace}
use Rattle.tbi_memory.specs.ObjectMemory.{tag_plain, with_fresh_object}
use Rattle.tag_alloc.specs.declared.blocks.Block.{Block}
use Rattle.tag_alloc.specs.declared.blocks.Freed.{Freed}
use Rattle.tag_alloc.specs.HeapBlocks.{HeapState, place_of_new, heap_full, with_block, without_block, block_number, freed_by}

-- the heap and memory after a birth, and the new block's tagged address
pub record AfterBirth : Type 0 where
  pub heap : HeapState
  pub space : AddressSpace
  pub number : ℕ

-- the heap and memory after a death
pub record AfterDeath : Type 0 where
  pub heap : HeapState
  pub space : AddressSpace

-- a new block, tagged by a word, with the number of its birth and its chain
abbrev pub new_block : (word place size birth born : ℕ) → Block
new_block word place size birth born =
    record { at = place; size = size; tag = heap_tag_of word; birth = birth; born = born }

-- after the birth of a block: it is in the table, and zero and tagged in memory
unfoldable pub after_birth : HeapState → AddressSpace → Block → AfterBirth
after_birth heap space block =
    record {
      heap = record heap { living = with_block block heap.living; living_size = heap.living_size + rounded_size block.size };
      space = with_fresh_object space block.at block.size block.tag;
      number = block_number block;
    }

-- a block of this size at its place, for a tag word, the number of the birth and its chain; or the heap is full
unfoldable pub allocated : HeapState → AddressSpace → (word size birth born : ℕ) → Result AfterBirth Full
allocated heap space word size birth born =
    elim (place_of_new heap size) [
      | None ↦ Err (heap_full heap size)
      | Some place ↦ Ok (after_birth heap space (new_block word place size birth born))
    ]

-- a freed block before those that its task freed, as many as are remembered
abbrev pub remembered : HeapState → ℕ → Freed → List (List Freed)
remembered heap task freed = slice_set heap.freed task (take heap.ring (freed ∷ freed_by heap task))

-- After the death of a block, for a tag word, the task that frees it and the chain: its granules have a free tag, it is no
-- longer in the table, and the task remembers it. No byte changes.
unfoldable pub after_death : HeapState → AddressSpace → (word task died : ℕ) → Block → AfterDeath
after_death heap space word task died block =
    record {
      heap = record heap {
        living = without_block block.at heap.living;
        living_size = heap.living_size - rounded_size block.size;
        freed = remembered heap task (record { block = block; died = died });
      };
      space = tag_plain space block.at (rounded_size block.size) (free_tag_of word block.tag);
    }
