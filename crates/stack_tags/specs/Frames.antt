-- The frames of each task: the places of their variables, and the variables' tags (Clang, "Hardware-assisted AddressSanitizer
-- Design Documentation", "Stack"). The places, and what is remembered of ended frames, are this project's choice. A frame
-- without variables isn't listed. Frames follow each other downwards from the stack's end, so what they take together is how
-- far the newest one has come.
use Rattle.std.specs.Prelude.{◌≡◌, ℕ, ◌+◌, ◌-◌, ◌*◌, List, [], ◌∷◌, ◌++◌, option_map, unwrap_or, take, slice_get, sum_by}
use Rattle.hw_base.specs.declared.endings.Full.{Full}
use Rattle.hw_base.specs.declared.endings.Space.TheVariants.{Stack}
use Rattle.hw_base.specs.AddressMap.{AddressMap, frame_size}
use Rattle.hw_base.specs.TaggedAddress.{tagged_address}
use Rattle.hw_tags.specs.Tag.{frame_tag_of}
use Rattle.stack_tags.specs.declared.frame_record.FrameRecord.{FrameRecord}

-- a living frame, with the sizes of its variables in order
pub record LivingFrame : Type 0 where
  pub frame : FrameRecord
  pub sizes : List ℕ

-- a task's living frames and the ended ones that are remembered, both newest first
pub record TaskFrames : Type 0 where
  pub living : List LivingFrame
  pub ended : List FrameRecord

-- the first address of task 0's stack, the length of each stack in bytes, the frames of each task, and how many ended ones
-- a task remembers
pub record StacksState : Type 0 where
  pub from : ℕ
  pub stack_length : ℕ
  pub tasks : List TaskFrames
  pub ring : ℕ

-- stacks of no task
abbrev pub stacks_at_start : AddressMap → ℕ → StacksState
stacks_at_start places ring =
    record { from = places.stacks_at; stack_length = places.stack_length; tasks = []; ring = ring }

abbrev pub no_frames : TaskFrames
no_frames = record { living = []; ended = [] }

-- one more task, without frames
abbrev pub with_task : StacksState → StacksState
with_task stacks = record stacks { tasks = stacks.tasks ++ no_frames ∷ [] }

-- the frames of a task
abbrev pub frames_of : StacksState → ℕ → TaskFrames
frames_of stacks task = unwrap_or (slice_get stacks.tasks task) no_frames

-- the address after the last of a task's stack
abbrev pub stack_end : StacksState → ℕ → ℕ
stack_end stacks task = stacks.from + (task + 1) * stacks.stack_length

-- the lowest address of the newest living frame, or the stack's end if there is none
abbrev pub top_above : ℕ → List LivingFrame → ℕ
top_above end [] = end
top_above end (newest ∷ frames) = newest.frame.low

abbrev pub top_of_stack : StacksState → ℕ → ℕ
top_of_stack stacks task = top_above (stack_end stacks task) (frames_of stacks task).living

-- the bytes that a task's living frames take
abbrev pub living_size : StacksState → ℕ → ℕ
living_size stacks task = stack_end stacks task - top_of_stack stacks task

-- the lowest address of a new frame, which lies directly below the newest living one
abbrev pub low_of_new : StacksState → ℕ → List ℕ → ℕ
low_of_new stacks task sizes = top_of_stack stacks task - frame_size sizes

-- there is no room for a frame of these variables
abbrev pub stack_full : StacksState → ℕ → List ℕ → Full
stack_full stacks task sizes = record { space = Stack; asked = frame_size sizes; living = living_size stacks task }

-- the tagged address of variable k of a frame: variable 0 is the lowest, and the others follow upwards
abbrev pub variable_of : LivingFrame → ℕ → ℕ
variable_of living k =
    tagged_address (frame_tag_of living.frame.word k) (living.frame.low + frame_size (take k living.sizes))

-- the tagged address of variable k of a task's newest frame, or 0 if it has none
abbrev pub variable_number : StacksState → (task k : ℕ) → ℕ
variable_number stacks task k = unwrap_or (option_map (λ newest. variable_of newest k) (slice_get (frames_of stacks task).living 0)) 0

-- ---- what each stack keeps

-- each of these frames ends where the one before it begins, and the oldest at the stack's end
abbrev pub FollowEachOther : ℕ → List LivingFrame → Type 0
FollowEachOther end [] = Unit {0}
FollowEachOther end (newest ∷ older) = (newest.frame.low + frame_size newest.sizes ≡ top_above end older) × FollowEachOther end older

-- the frames of each task do
abbrev pub AreStacks : StacksState → Type 0
AreStacks stacks = (task : ℕ) → FollowEachOther (stack_end stacks task) (frames_of stacks task).living

-- the sum of what frames take
abbrev pub size_sum : List LivingFrame → ℕ
size_sum frames = sum_by (λ frame. frame_size frame.sizes) frames
