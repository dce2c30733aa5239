-- Spaces for examples: "hi" with its 0 in an object of 3 bytes with the tag 42 at the heap's start, and the same in an
-- object of 2 bytes, which has no 0 inside.
use Rattle.std.specs.Prelude.{[], ◌∷◌}
use Rattle.tbi_memory.specs.AddressSpace.{AddressSpace, with_bytes}
use Rattle.tbi_memory.specs.ObjectMemory.{with_fresh_object}
use Rattle.tbi_memory.specs.SmallSpace.{small_space}

unfoldable pub space_of_string : AddressSpace
space_of_string = with_bytes (with_fresh_object small_space 536870912 3 42) 536870912 (104 ∷ 105 ∷ 0 ∷ [])

unfoldable pub space_of_open_string : AddressSpace
space_of_open_string = with_bytes (with_fresh_object small_space 536870912 2 42) 536870912 (104 ∷ 105 ∷ [])
