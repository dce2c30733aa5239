-- Stacks for examples, over the small address space: no frame; a frame of function 1 with variables of 17 and 16 bytes for
-- the word 9; and after that was left.
use Rattle.std.specs.Prelude.{[], ◌∷◌}
use Rattle.tbi_memory.specs.SmallSpace.{small_map, small_space}
use Rattle.stack_tags.specs.Frames.{StacksState, stacks_at_start, with_task}
use Rattle.stack_tags.specs.FrameSteps.{StacksAfter, new_frame, after_entry, left}

-- one task, and a ring of one
unfoldable pub empty_stacks : StacksState
empty_stacks = with_task (stacks_at_start small_map 1)

unfoldable pub stacks_of_one : StacksAfter
stacks_of_one = after_entry empty_stacks small_space 0 (new_frame empty_stacks 0 1 9 (17 ∷ 16 ∷ []) 0 5)

unfoldable pub stacks_left : StacksAfter
stacks_left = left stacks_of_one.stacks stacks_of_one.space 0 6
