-- The map of the simulated address space, and sizes in granules. A granule is 16 bytes (Clang, "Hardware-assisted
-- AddressSanitizer Design Documentation", "Algorithm"). The ranges are this project's choice. The definitions of memory,
-- blocks, frames and globals take the map, so that they compute on small ones.
use Rattle.std.specs.Prelude.{ℕ, zero, suc, ◌+◌, ◌*◌, ◌/◌, List, sum_by}
use Rattle.hw_base.specs.declared.numbers.TheConstants.{GLOBALS_AT, STACKS_AT, STACK_LENGTH, MOST_TASKS, MOST_FRAMES, HEAP_AT}

-- Addresses and lengths are in bytes, multiples of 16. A stack for each of the tasks follows the other from `stacks_at` on.
-- A task has at most `most_frames` frames.
pub record AddressMap : Type 0 where
  pub globals_at : ℕ
  pub stacks_at : ℕ
  pub stack_length : ℕ
  pub most_tasks : ℕ
  pub most_frames : ℕ
  pub heap_at : ℕ
  pub heap_length : ℕ

-- the program's map, for a length of the heap
unfoldable pub program_map : ℕ → AddressMap
program_map heap =
    record {
      globals_at = GLOBALS_AT;
      stacks_at = STACKS_AT;
      stack_length = STACK_LENGTH;
      most_tasks = MOST_TASKS;
      most_frames = MOST_FRAMES;
      heap_at = HEAP_AT;
      heap_length = heap;
    }

-- the bytes that an object takes: its size rounded up to a multiple of 16, and at least 16
abbrev pub rounded_size : ℕ → ℕ
rounded_size zero = 16
rounded_size (suc n) = (suc n + 15) / 16 * 16

-- the bytes that a frame takes: the sum of its variables' rounded sizes
abbrev pub frame_size : List ℕ → ℕ
frame_size sizes = sum_by rounded_size sizes

-- the number of the granule of an address
abbrev pub granule_of : ℕ → ℕ
granule_of address = address / 16
