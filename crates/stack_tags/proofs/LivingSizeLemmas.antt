-- What a task's living frames take together is the sum of their sizes.
use Rattle.hw_base.specs.AddressMap.{frame_size}
use Rattle.std.proofs.Common.{◌≡◌, ℕ, zero, suc, ◌+◌, ◌-◌, ◌≤◌, Bool, true, false, List, [], ◌∷◌, ◌++◌, Option, Some, None, refl, sym, subst, inl, inr, arith}
use Rattle.std.specs.Prelude.{slice_get, slice_set, unwrap_or, option_map, nat_le, Result, Ok, Err}
use Rattle.std.proofs.lemmas.Bool.{cases_eq}
use Rattle.std.proofs.lemmas.Bool.Decides.{nat_tests}
use Rattle.std.proofs.lemmas.List.Sums.{sum_by-cons}
use Rattle.hw_base.specs.declared.endings.Full.{Full}
use Rattle.tbi_memory.specs.AddressSpace.{AddressSpace}
use Rattle.tbi_memory.proofs.ListLemmas.{slice_get-set_at, slice_get-set_other}
use Rattle.stack_tags.specs.Frames.{LivingFrame, TaskFrames, StacksState, no_frames, with_task, frames_of, stack_end, top_above, top_of_stack, living_size, low_of_new, stack_full, FollowEachOther, AreStacks, size_sum}
use Rattle.stack_tags.specs.FrameSteps.{StacksAfter, new_frame, with_frame, after_entry, entered, without_newest, after_exit, left}
use Rattle.stack_tags.proofs.FrameLemmas.{low-ends}

pub top-sum : (end : ℕ) (frames : List LivingFrame) → FollowEachOther end frames → top_above end frames + size_sum frames ≡ end
top-sum end [] h = omega arith
top-sum end (newest ∷ older) h =
    let sum = sum_by-cons (λ (f : LivingFrame). frame_size f.sizes) newest older in
    let rest = top-sum end older h.1 in
    let first = h.0 in
    omega (arith, sum, rest, first)

pub living-sum : (stacks : StacksState) (task : ℕ) → AreStacks stacks → living_size stacks task ≡ size_sum (frames_of stacks task).living
living-sum stacks task h =
    let all = top-sum (stack_end stacks task) (frames_of stacks task).living (h task) in
    difference (top_of_stack stacks task) (size_sum (frames_of stacks task).living) (stack_end stacks task) all
  where
    difference : (top sum end : ℕ) → top + sum ≡ end → end - top ≡ sum
    difference top sum end e = omega arith

-- one task's frames are changed
set-same : (end : ℕ) (o : Option TaskFrames) (new : TaskFrames) → FollowEachOther end new.living → FollowEachOther end (unwrap_or (option_map (λ _old. new) o) no_frames).living
set-same end None new h = tt
set-same end (Some old) new h = h

set-follows : (stacks : StacksState) (task k : ℕ) (new : TaskFrames) → AreStacks stacks → FollowEachOther (stack_end stacks task) new.living → FollowEachOther (stack_end stacks k) (unwrap_or (slice_get (slice_set stacks.tasks task new) k) no_frames).living
set-follows stacks task k new all here =
    elim (cases_eq k task) [
      | inl same ↦
          subst (λ (n : ℕ). FollowEachOther (stack_end stacks n) (unwrap_or (slice_get (slice_set stacks.tasks task new) n) no_frames).living) (sym same)
          (subst (λ (o : Option TaskFrames). FollowEachOther (stack_end stacks task) (unwrap_or o no_frames).living) (sym (slice_get-set_at stacks.tasks task new))
          (set-same (stack_end stacks task) (slice_get stacks.tasks task) new here))
      | inr other ↦
          subst (λ (o : Option TaskFrames). FollowEachOther (stack_end stacks k) (unwrap_or o no_frames).living) (sym (slice_get-set_other stacks.tasks task k new other)) (all k)
    ]

-- one more task has no frame
more-follows : (end : ℕ) (tasks : List TaskFrames) (k : ℕ) → FollowEachOther end (unwrap_or (slice_get tasks k) no_frames).living → FollowEachOther end (unwrap_or (slice_get (tasks ++ no_frames ∷ []) k) no_frames).living
more-follows end [] zero h = tt
more-follows end [] (suc k) h = tt
more-follows end (first ∷ tasks) zero h = h
more-follows end (first ∷ tasks) (suc k) h = more-follows end tasks k h

pub stacks-with_task : (stacks : StacksState) → AreStacks stacks → AreStacks (with_task stacks)
stacks-with_task stacks all task = more-follows (stack_end stacks task) stacks.tasks task (all task)

-- an entry, by whether there is room
entered_on : Bool → StacksAfter → Full → Result StacksAfter Full
entered_on t after full = elim t [ true ↦ Ok after | false ↦ Err full ]

stacks-entered_on : (t : Bool) (stacks : StacksState) (space : AddressSpace) (task func word : ℕ) (sizes : List ℕ) (birth born : ℕ) (after : StacksAfter) → nat_le (living_size stacks task + frame_size sizes) stacks.stack_length ≡ t → AreStacks stacks → entered_on t (after_entry stacks space task (new_frame stacks task func word sizes birth born)) (stack_full stacks task sizes) ≡ Ok after → AreStacks after.stacks
unfolding entered_on after_entry
stacks-entered_on false stacks space task func word sizes birth born after e all h = absurd (cc)
stacks-entered_on true stacks space task func word sizes birth born after e all h =
    let new = new_frame stacks task func word sizes birth born in
    let same : after_entry stacks space task new ≡ after = cc in
    let room : living_size stacks task + frame_size sizes ≤ stacks.stack_length = grind (arith, nat_tests) in
    let sums = top-sum (stack_end stacks task) (frames_of stacks task).living (all task) in
    let inside : top_of_stack stacks task ≤ stack_end stacks task = omega (arith, sums) in
    let first : low_of_new stacks task sizes + frame_size sizes ≡ top_of_stack stacks task = low-ends stacks task sizes inside room in
    subst (λ (a : StacksAfter). AreStacks a.stacks) same (λ (k : ℕ). set-follows stacks task k (with_frame (frames_of stacks task) new) all (first, all task))

pub stacks-entered : (stacks : StacksState) (space : AddressSpace) (task func word : ℕ) (sizes : List ℕ) (birth born : ℕ) (after : StacksAfter) → AreStacks stacks → entered stacks space task func word sizes birth born ≡ Ok after → AreStacks after.stacks
unfolding entered entered_on
stacks-entered stacks space task func word sizes birth born after all h =
    stacks-entered_on (nat_le (living_size stacks task + frame_size sizes) stacks.stack_length) stacks space task func word sizes birth born after refl all h

-- a return, by the task's living frames
stacks-exit : (stacks : StacksState) (space : AddressSpace) (task died : ℕ) (frames : List LivingFrame) → FollowEachOther (stack_end stacks task) frames → AreStacks stacks → AreStacks (after_exit stacks space task died frames).stacks
stacks-exit stacks space task died [] here all = all
stacks-exit stacks space task died (newest ∷ older) here all =
    λ (k : ℕ). set-follows stacks task k (without_newest stacks.ring died newest older (frames_of stacks task).ended) all here.1

pub stacks-left : (stacks : StacksState) (space : AddressSpace) (task died : ℕ) → AreStacks stacks → AreStacks (left stacks space task died).stacks
unfolding left
stacks-left stacks space task died all = stacks-exit stacks space task died (frames_of stacks task).living (all task) all
