-- Entering and leaving a function with variables (Clang, "Hardware-assisted AddressSanitizer Design Documentation", "Stack";
-- that variables are zero at entry, and that the memory of an ended frame has the tag 0, is this project's choice). An entry
-- draws one tag word if there is room.
use Rattle.std.specs.Prelude.{ℕ, ◌+◌, List, [], ◌∷◌, true, false, nat_le, Some, None, take, slice_set, Result, Ok, Err}
use Rattle.hw_base.specs.declared.endings.Full.{Full}
use Rattle.hw_base.specs.AddressMap.{frame_size, rounded_size}
use Rattle.hw_tags.specs.Tag.{frame_tag_of}
use Rattle.tbi_memory.specs.AddressSpace.{AddressSpace}
use Rattle.tbi_memory.specs.ObjectMemory.{tag_plain, with_fresh_object}
use Rattle.stack_tags.specs.declared.frame_record.FrameRecord.{FrameRecord}
use Rattle.stack_tags.specs.Frames.{LivingFrame, TaskFrames, StacksState, frames_of, living_size, low_of_new, stack_full}

-- stacks and memory after a frame was entered or left
pub record StacksAfter : Type 0 where
  pub stacks : StacksState
  pub space : AddressSpace

-- memory with the variables of a frame from number k on, from a place on: each zero in its rounded size, and tagged
unfoldable pub with_variables : AddressSpace → (word k place : ℕ) → List ℕ → AddressSpace
with_variables space word k place [] = space
with_variables space word k place (size ∷ sizes) =
    with_variables (with_fresh_object space place size (frame_tag_of word k)) word (k + 1) (place + rounded_size size) sizes

-- a new frame of a function, for a tag word, the number of its birth and its chain
abbrev pub new_frame : StacksState → (task func word : ℕ) → List ℕ → (birth born : ℕ) → LivingFrame
new_frame stacks task func word sizes birth born =
    record {
      frame = record { func = func; low = low_of_new stacks task sizes; word = word; birth = birth; born = born; died = None };
      sizes = sizes;
    }

-- a task's frames with one more
abbrev pub with_frame : TaskFrames → LivingFrame → TaskFrames
with_frame frames newest = record frames { living = newest ∷ frames.living }

-- after a frame was entered
unfoldable pub after_entry : StacksState → AddressSpace → ℕ → LivingFrame → StacksAfter
after_entry stacks space task newest =
    record {
      stacks = record stacks { tasks = slice_set stacks.tasks task (with_frame (frames_of stacks task) newest) };
      space = with_variables space newest.frame.word 0 newest.frame.low newest.sizes;
    }

-- A frame of these variables is entered by a task: the function, the tag word, the number of the birth and its chain; or the
-- stack is full, if the task's living frames and the new one take more than the stack's length.
unfoldable pub entered : StacksState → AddressSpace → (task func word : ℕ) → List ℕ → (birth born : ℕ) → Result StacksAfter Full
entered stacks space task func word sizes birth born =
    elim (nat_le (living_size stacks task + frame_size sizes) stacks.stack_length) [
      | true ↦ Ok (after_entry stacks space task (new_frame stacks task func word sizes birth born))
      | false ↦ Err (stack_full stacks task sizes)
    ]

-- an ended frame before those that its task remembers
abbrev pub without_newest : (ring died : ℕ) → LivingFrame → List LivingFrame → List FrameRecord → TaskFrames
without_newest ring died newest older ended =
    record { living = older; ended = take ring (record newest.frame { died = Some died } ∷ ended) }

-- after a task's newest frame was left, by its living frames: its memory has the tag 0, and it is remembered
abbrev pub after_exit : StacksState → AddressSpace → (task died : ℕ) → List LivingFrame → StacksAfter
after_exit stacks space task died [] = record { stacks = stacks; space = space }
after_exit stacks space task died (newest ∷ older) =
    record {
      stacks = record stacks { tasks = slice_set stacks.tasks task (without_newest stacks.ring died newest older (frames_of stacks task).ended) };
      space = tag_plain space newest.frame.low (frame_size newest.sizes) 0;
    }

-- a task leaves its newest frame, with the chain of the return
unfoldable pub left : StacksState → AddressSpace → (task died : ℕ) → StacksAfter
left stacks space task died = after_exit stacks space task died (frames_of stacks task).living
