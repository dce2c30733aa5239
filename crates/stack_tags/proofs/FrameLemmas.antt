-- Laws of frames: their places, that leaving undoes entering, and that variables stay inside their frame.
use Rattle.std.proofs.Common.{◌≡◌, ℕ, zero, suc, ◌+◌, ◌-◌, ◌*◌, ◌/◌, ◌%◌, ◌<◌, ◌≤◌, Bool, true, false, List, [], ◌∷◌, length, refl, ◌∙◌, ap, arith}
use Rattle.std.specs.Prelude.{slice_get, slice_set, nat_le, unwrap_or, Result, Ok, Err}
use Rattle.std.proofs.lemmas.List.{length-set}
use Rattle.std.proofs.lemmas.List.Sums.{sum_by-cons}
use Rattle.hw_base.specs.declared.endings.Full.{Full}
use Rattle.hw_base.specs.AddressMap.{frame_size, rounded_size, granule_of}
use Rattle.hw_tags.specs.Tag.{frame_tag_of}
use Rattle.hw_shadow.specs.ObjectTags.{object_tags}
use Rattle.tbi_memory.specs.MappedBytes.{byte_at}
use Rattle.tbi_memory.specs.AddressSpace.{AddressSpace}
use Rattle.tbi_memory.specs.ObjectMemory.{with_fresh_object}
use Rattle.tbi_memory.proofs.MappedBytesLemmas.{write_below}
use Rattle.tbi_memory.proofs.SpaceLemmas.{fresh-bytes_below, fresh-bytes_above, fresh-tags_above}
use Rattle.stack_tags.specs.Frames.{LivingFrame, TaskFrames, StacksState, frames_of, no_frames, stack_end, top_of_stack, living_size, low_of_new, stack_full}
use Rattle.stack_tags.specs.FrameSteps.{StacksAfter, with_variables, new_frame, with_frame, after_entry, entered, without_newest, after_exit, left}

-- a rounded size is whole granules
pub rounded-whole : (size : ℕ) → rounded_size size % 16 ≡ 0
rounded-whole zero = refl
rounded-whole (suc n) = omega arith

pub frame_size-cons : (size : ℕ) (sizes : List ℕ) → frame_size (size ∷ sizes) ≡ rounded_size size + frame_size sizes
frame_size-cons size sizes = sum_by-cons rounded_size size sizes

-- the variables of a frame change no byte below or above it
pub variables-bytes_below : (space : AddressSpace) (word k place : ℕ) (sizes : List ℕ) (b : ℕ) → b < place → byte_at (with_variables space word k place sizes).bytes b ≡ byte_at space.bytes b
unfolding with_variables
variables-bytes_below space word k place [] b h = refl
variables-bytes_below space word k place (size ∷ sizes) b h =
    variables-bytes_below (with_fresh_object space place size (frame_tag_of word k)) word (k + 1) (place + rounded_size size) sizes b (omega arith)
    ∙ fresh-bytes_below space place size (frame_tag_of word k) b h

pub variables-bytes_above : (space : AddressSpace) (word k place : ℕ) (sizes : List ℕ) (b : ℕ) → place + frame_size sizes ≤ b → byte_at (with_variables space word k place sizes).bytes b ≡ byte_at space.bytes b
unfolding with_variables
variables-bytes_above space word k place [] b h = refl
variables-bytes_above space word k place (size ∷ sizes) b h =
    let sum = frame_size-cons size sizes in
    variables-bytes_above (with_fresh_object space place size (frame_tag_of word k)) word (k + 1) (place + rounded_size size) sizes b (omega arith)
    ∙ fresh-bytes_above space place size (frame_tag_of word k) b (omega arith)

-- nor a tag
pub variables-tags_below : (space : AddressSpace) (word k place : ℕ) (sizes : List ℕ) (g : ℕ) → g < granule_of place → byte_at (with_variables space word k place sizes).shadow g ≡ byte_at space.shadow g
unfolding with_variables
variables-tags_below space word k place [] g h = refl
variables-tags_below space word k place (size ∷ sizes) g h =
    variables-tags_below (with_fresh_object space place size (frame_tag_of word k)) word (k + 1) (place + rounded_size size) sizes g (omega arith)
    ∙ write_below space.shadow (granule_of place) (object_tags size (frame_tag_of word k)) g h

pub variables-tags_above : (space : AddressSpace) (word k place : ℕ) (sizes : List ℕ) (g : ℕ) → granule_of place + frame_size sizes / 16 ≤ g → byte_at (with_variables space word k place sizes).shadow g ≡ byte_at space.shadow g
unfolding with_variables
variables-tags_above space word k place [] g h = refl
variables-tags_above space word k place (size ∷ sizes) g h =
    let sum = frame_size-cons size sizes in
    let whole = rounded-whole size in
    variables-tags_above (with_fresh_object space place size (frame_tag_of word k)) word (k + 1) (place + rounded_size size) sizes g (omega arith)
    ∙ fresh-tags_above space place size (frame_tag_of word k) g (omega arith)

pub low-ends : (stacks : StacksState) (task : ℕ) (sizes : List ℕ) → top_of_stack stacks task ≤ stack_end stacks task → living_size stacks task + frame_size sizes ≤ stacks.stack_length → low_of_new stacks task sizes + frame_size sizes ≡ top_of_stack stacks task
low-ends stacks task sizes within room = ends (top_of_stack stacks task) stacks.from (task * stacks.stack_length) stacks.stack_length (stack_end stacks task) (frame_size sizes) (end-of stacks.from task stacks.stack_length) within room
  where
    end-of : (from task length_ : ℕ) → from + (task + 1) * length_ ≡ from + (task * length_ + length_)
    end-of from task length_ = omega arith

    ends : (top from before length_ end size : ℕ) → end ≡ from + (before + length_) → top ≤ end → end - top + size ≤ length_ → top - size + size ≡ top
    ends top from before length_ end size e within room = omega arith

pub low-begins : (stacks : StacksState) (task : ℕ) (sizes : List ℕ) → top_of_stack stacks task ≤ stack_end stacks task → living_size stacks task + frame_size sizes ≤ stacks.stack_length → stacks.from + task * stacks.stack_length ≤ low_of_new stacks task sizes
low-begins stacks task sizes within room = begins (top_of_stack stacks task) stacks.from (task * stacks.stack_length) stacks.stack_length (stack_end stacks task) (frame_size sizes) (end-of stacks.from task stacks.stack_length) within room
  where
    end-of : (from task length_ : ℕ) → from + (task + 1) * length_ ≡ from + (task * length_ + length_)
    end-of from task length_ = omega arith

    begins : (top from before length_ end size : ℕ) → end ≡ from + (before + length_) → top ≤ end → end - top + size ≤ length_ → from + before ≤ top - size
    begins top from before length_ end size e within room = omega arith

-- an entry that isn't refused, by its test
entered_on : Bool → StacksAfter → Full → Result StacksAfter Full
entered_on t after full = elim t [ true ↦ Ok after | false ↦ Err full ]

entered_on-ok : (t : Bool) (new after : StacksAfter) (full : Full) → entered_on t new full ≡ Ok after → after ≡ new
unfolding entered_on
entered_on-ok true new after full h = cc
entered_on-ok false new after full h = absurd (cc)

pub entered-ok : (stacks : StacksState) (space : AddressSpace) (task func word : ℕ) (sizes : List ℕ) (birth born : ℕ) (after : StacksAfter) → entered stacks space task func word sizes birth born ≡ Ok after → after ≡ after_entry stacks space task (new_frame stacks task func word sizes birth born)
unfolding entered entered_on
entered-ok stacks space task func word sizes birth born after h =
    entered_on-ok (nat_le (living_size stacks task + frame_size sizes) stacks.stack_length) (after_entry stacks space task (new_frame stacks task func word sizes birth born)) after (stack_full stacks task sizes) h

-- an element that was set
pub get-set : {A : Type 0} (xs : List A) (i : ℕ) (y d : A) → i < length xs → unwrap_or (slice_get (slice_set xs i y) i) d ≡ y
get-set [] i y d h = absurd (omega arith)
get-set (x ∷ xs) zero y d h = refl
get-set (x ∷ xs) (suc i) y d h = get-set xs i y d (omega arith)

pub left-entered : (stacks : StacksState) (space other : AddressSpace) (task died : ℕ) (newest : LivingFrame) → task < length stacks.tasks → (frames_of (left (after_entry stacks space task newest).stacks other task died).stacks task).living ≡ (frames_of stacks task).living
unfolding left after_entry
left-entered stacks space other task died newest h =
    let new : StacksState = record stacks { tasks = slice_set stacks.tasks task (with_frame (frames_of stacks task) newest) } in
    let there : frames_of new task ≡ with_frame (frames_of stacks task) newest = get-set stacks.tasks task (with_frame (frames_of stacks task) newest) no_frames h in
    let same : (frames_of new task).living ≡ newest ∷ (frames_of stacks task).living = ap (λ (f : TaskFrames). f.living) there in
    ap (λ (frames : List LivingFrame). (frames_of (after_exit new other task died frames).stacks task).living) same
    ∙ ap (λ (f : TaskFrames). f.living) (get-set new.tasks task (without_newest stacks.ring died newest (frames_of stacks task).living (frames_of new task).ended) no_frames (omega (arith, length-set stacks.tasks task (with_frame (frames_of stacks task) newest))))

pub left-entered_ok : (stacks : StacksState) (space : AddressSpace) (task func word : ℕ) (sizes : List ℕ) (birth born : ℕ) (after : StacksAfter) (other : AddressSpace) (died : ℕ) → task < length stacks.tasks → entered stacks space task func word sizes birth born ≡ Ok after → (frames_of (left after.stacks other task died).stacks task).living ≡ (frames_of stacks task).living
left-entered_ok stacks space task func word sizes birth born after other died h e =
    ap (λ (a : StacksAfter). (frames_of (left a.stacks other task died).stacks task).living) (entered-ok stacks space task func word sizes birth born after e)
    ∙ left-entered stacks space other task died (new_frame stacks task func word sizes birth born) h
