-- A small address space for examples: the first addresses of the program's map, with stacks of 64 bytes for two tasks, a heap of 64
-- bytes, one constant and one variable of 16 bytes. The definitions of memory, blocks, frames and globals compute on it.
use Rattle.hw_base.specs.AddressMap.{AddressMap}
use Rattle.tbi_memory.specs.declared.layout.Layout.{Layout}
use Rattle.tbi_memory.specs.AddressSpace.{AddressSpace, space_at_start}
use Rattle.tbi_memory.specs.ObjectMemory.{with_fresh_object}

abbrev pub small_map : AddressMap
small_map =
    record {
      globals_at = 65536;
      stacks_at = 268435456;
      stack_length = 64;
      most_tasks = 2;
      most_frames = 4;
      heap_at = 536870912;
      heap_length = 64;
    }

abbrev pub small_layout : Layout
small_layout = record { constants = 16; variables_at = 69632; variables = 16; heap = 64 }

unfoldable pub small_space : AddressSpace
small_space = space_at_start small_map small_layout

-- the small space with an object of 17 bytes and the tag 42 at the heap's start
unfoldable pub space_of_seventeen : AddressSpace
space_of_seventeen = with_fresh_object small_space 536870912 17 42
