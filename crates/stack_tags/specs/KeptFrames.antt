-- The frames of a task as they are kept: the variables of all its living frames are one list, the oldest frame's first, and
-- each frame knows where its own begin. This project's choice.
use Rattle.std.specs.Prelude.{◌≡◌, ℕ, ◌+◌, ◌-◌, ◌*◌, ◌%◌, ◌^◌, ◌<◌, ◌≤◌, Bool, List, [], ◌∷◌, length, All, Option, Some, None, true, false, option_map, unwrap_or, map, take, drop, slice_get, nat_le}
use Rattle.hw_base.specs.declared.endings.Full.{Full}
use Rattle.hw_base.specs.declared.endings.Space.TheVariants.{Stack}
use Rattle.hw_base.specs.declared.numbers.TheConstants.{STACKS_AT, STACK_LENGTH, MOST_TASKS}
use Rattle.hw_base.specs.AddressMap.{frame_size, rounded_size}
use Rattle.hw_tags.specs.Tag.{frame_tag_of}
use Rattle.tbi_memory.specs.AddressSpace.{AddressSpace}
use Rattle.tbi_memory.specs.ObjectMemory.{tag_plain, with_fresh_object}
use Rattle.stack_tags.specs.declared.variables.Variable.{Variable}
use Rattle.stack_tags.specs.declared.entered_frames.EnteredFrame.{EnteredFrame}
use Rattle.stack_tags.specs.Frames.{LivingFrame, TaskFrames, StacksState, top_above, variable_of, FollowEachOther}
use Rattle.stack_tags.specs.FrameSteps.{with_frame, without_newest}

-- ---- variables

-- the variables of a frame from a place on
unfoldable pub variables_at : (place : ℕ) → List ℕ → List Variable
variables_at place [] = []
variables_at place (size ∷ sizes) = record { place = place; size = size } ∷ variables_at (place + rounded_size size) sizes

abbrev pub sizes_of : List Variable → List ℕ
sizes_of variables = map (λ variable. variable.size) variables

-- memory with these variables, from number k on
unfoldable pub with_each : AddressSpace → (word k : ℕ) → List Variable → AddressSpace
with_each space word k [] = space
with_each space word k (variable ∷ variables) =
    with_each (with_fresh_object space variable.place variable.size (frame_tag_of word k)) word (k + 1) variables

-- variables begin at multiples of 16, and end in the address space
abbrev pub AreObjects : List Variable → Type 0
AreObjects variables = All (λ variable. (variable.place % 16 ≡ 0) × (variable.place + variable.size < 2 ^ 56)) variables

-- ---- the frames of one task

-- the living frames of entered ones, newest first: each has the variables from its first one on that no newer one has
unfoldable pub living_of : List Variable → List EnteredFrame → List LivingFrame
living_of variables [] = []
living_of variables (newest ∷ older) =
    record { frame = newest.frame; sizes = sizes_of (drop newest.first variables) } ∷ living_of (take newest.first variables) older

-- the variables are where the frames say
unfoldable pub AreTheirs : List Variable → List EnteredFrame → Type 0
AreTheirs variables [] = Unit {0}
AreTheirs variables (newest ∷ older) =
    (drop newest.first variables ≡ variables_at newest.frame.low (sizes_of (drop newest.first variables))) × AreTheirs (take newest.first variables) older

-- the lowest address of the newest frame, or the stack's end
abbrev pub top_of_entered : ℕ → List EnteredFrame → ℕ
top_of_entered end [] = end
top_of_entered end (newest ∷ older) = newest.frame.low

-- one task's stack: the address after its last byte, the frames, and how many ended ones are remembered
pub record OneStack : Type 0 where
  pub end : ℕ
  pub frames : TaskFrames
  pub ring : ℕ

-- what is kept of a task, with the entered frames newest first: they follow each other downwards from the end, not below the
-- stack's first byte
pub record IsStack (end : ℕ) (variables : List Variable) (frames : List EnteredFrame) : Type 0 where
  pub end_whole : end % 16 ≡ 0
  pub not_below : STACK_LENGTH ≤ end
  pub small : end < 2 ^ 56
  pub begins : end ≤ top_above end (living_of variables frames) + STACK_LENGTH
  pub follow : FollowEachOther end (living_of variables frames)
  pub theirs : AreTheirs variables frames

-- why there is no room for a frame of so many bytes, if there is none
abbrev pub refusal_by : Bool → Full → Option Full
refusal_by fits full = elim fits [ true ↦ None | false ↦ Some full ]

abbrev pub bytes_of : OneStack → ℕ
bytes_of stack = stack.end - top_above stack.end stack.frames.living

abbrev pub stack_refusal : OneStack → (asked : ℕ) → Option Full
stack_refusal stack asked =
    refusal_by (nat_le (bytes_of stack + asked) STACK_LENGTH) (record { space = Stack; asked = asked; living = bytes_of stack })

-- a new frame on a stack
abbrev pub frame_on : OneStack → (func word : ℕ) → List ℕ → (birth born : ℕ) → LivingFrame
frame_on stack func word sizes birth born =
    record {
      frame = record { func = func; low = top_above stack.end stack.frames.living - frame_size sizes; word = word; birth = birth; born = born; died = None };
      sizes = sizes;
    }

-- a stack with one more frame
abbrev pub with_entered : OneStack → LivingFrame → OneStack
with_entered stack newest = record stack { frames = with_frame stack.frames newest }

-- the frames after the newest one was left, and memory
abbrev pub frames_left : (ring died : ℕ) → List LivingFrame → TaskFrames → TaskFrames
frames_left ring died [] frames = frames
frames_left ring died (newest ∷ older) frames = without_newest ring died newest older frames.ended

abbrev pub memory_left : AddressSpace → List LivingFrame → AddressSpace
memory_left space [] = space
memory_left space (newest ∷ older) = tag_plain space newest.frame.low (frame_size newest.sizes) 0

-- the tagged address of variable k of the newest frame, or 0 if there is none
abbrev pub newest_variable : List LivingFrame → (k : ℕ) → ℕ
newest_variable living k = unwrap_or (option_map (λ newest. variable_of newest k) (slice_get living 0)) 0

-- ---- the frames of all tasks

abbrev pub stacks_of : List OneStack → ℕ → StacksState
stacks_of stacks ring =
    record { from = STACKS_AT; stack_length = STACK_LENGTH; tasks = map (λ stack. stack.frames) stacks; ring = ring }

-- the stacks follow each other upwards, and each remembers as many ended frames
pub record AreTaskStacks (stacks : List OneStack) (ring : ℕ) : Type 0 where
  pub few : length stacks ≤ MOST_TASKS
  pub some : 1 ≤ ring
  pub ends : (task : ℕ) (stack : OneStack) → slice_get stacks task ≡ Some stack → stack.end ≡ STACKS_AT + (task + 1) * STACK_LENGTH
  pub rings : (task : ℕ) (stack : OneStack) → slice_get stacks task ≡ Some stack → stack.ring ≡ ring
