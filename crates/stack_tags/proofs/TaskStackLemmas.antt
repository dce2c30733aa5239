-- The stacks of all tasks as they are kept, when one of them changes.
use Rattle.std.proofs.Common.{◌≡◌, ℕ, zero, suc, ◌+◌, ◌-◌, ◌*◌, ◌^◌, ◌<◌, ◌≤◌, Bool, true, false, List, [], ◌∷◌, ◌++◌, length, map, set, Option, Some, None, refl, sym, ◌∙◌, ap, subst, arith}
use Rattle.std.specs.Prelude.{All, if◌then◌else◌, slice_get, slice_set, option_map, unwrap_or, nat_le, Result, Ok, Err, is_ok, OnOk, IfOk}
use Rattle.std.proofs.lemmas.Bool.Decides.{nat_tests}
use Rattle.std.proofs.lemmas.List.{length-append, length-set, length-map, map-set, map_push}
use Rattle.std.proofs.lemmas.Option.{slice_get-map, slice_get_past}
use Rattle.hw_base.specs.declared.endings.Full.{Full}
use Rattle.hw_base.specs.declared.endings.Space.TheVariants.{Stack}
use Rattle.hw_base.specs.declared.numbers.TheConstants.{STACKS_AT, STACK_LENGTH, MOST_TASKS}
use Rattle.hw_base.specs.AddressMap.{frame_size, program_map}
use Rattle.tbi_memory.specs.AddressSpace.{AddressSpace}
use Rattle.stack_tags.specs.declared.enter_error.EnterError.{EnterError}
use Rattle.stack_tags.specs.declared.frame_record.FrameRecord.{FrameRecord}
use Rattle.stack_tags.specs.Frames.{LivingFrame, TaskFrames, StacksState, stacks_at_start, no_frames, with_task, frames_of, stack_end, top_above, top_of_stack, living_size, stack_full, variable_number}
use Rattle.stack_tags.specs.FrameSteps.{StacksAfter, with_variables, new_frame, with_frame, after_entry, entered, without_newest, after_exit, left}
use Rattle.stack_tags.specs.KeptFrames.{OneStack, bytes_of, refusal_by, stack_refusal, frame_on, with_entered, frames_left, memory_left, newest_variable, stacks_of, AreTaskStacks}
use Rattle.stack_tags.proofs.StackLemmas.{refusal-fits}

-- ---- lists

set-same : {X : Type 0} (xs : List X) (k : ℕ) (x : X) → slice_get xs k ≡ Some x → set xs k x ≡ xs
set-same [] k x h = refl
set-same (y ∷ xs) zero x h = let same : x ≡ y = cc in ap (λ z. z ∷ xs) same
set-same (y ∷ xs) (suc k) x h = ap (λ rest. y ∷ rest) (set-same xs k x h)

-- what holds of each element at its number, after one is set or added
each-set : {X : Type 0} (P : ℕ → X → Type 0) (xs : List X) (k : ℕ) (x : X) → ((i : ℕ) (y : X) → slice_get xs i ≡ Some y → P i y) → P k x
    → (i : ℕ) (y : X) → slice_get (set xs k x) i ≡ Some y → P i y
each-set P [] k x each new i y h = each i y h
each-set P (z ∷ xs) zero x each new zero y h = let same : x ≡ y = cc in subst (P 0) same new
each-set P (z ∷ xs) zero x each new (suc i) y h = each (suc i) y h
each-set P (z ∷ xs) (suc k) x each new zero y h = each zero y h
each-set P (z ∷ xs) (suc k) x each new (suc i) y h = each-set (λ j. P (suc j)) xs k x (λ j w there. each (suc j) w there) new i y h

each-added : {X : Type 0} (P : ℕ → X → Type 0) (xs : List X) (x : X) → ((i : ℕ) (y : X) → slice_get xs i ≡ Some y → P i y) → P (length xs) x
    → (i : ℕ) (y : X) → slice_get (xs ++ x ∷ []) i ≡ Some y → P i y
each-added P [] x each new zero y h = let same : x ≡ y = cc in subst (P 0) same new
each-added P [] x each new (suc i) y h = absurd cc
each-added P (z ∷ xs) x each new zero y h = each zero y h
each-added P (z ∷ xs) x each new (suc i) y h = each-added (λ j. P (suc j)) xs x (λ j w there. each (suc j) w there) new i y h

-- ---- tasks

frames-in : OneStack → TaskFrames
frames-in stack = stack.frames

pub no-stacks : (ring : ℕ) → 1 ≤ ring → AreTaskStacks [] ring
no-stacks ring some =
    record { few = omega arith; some = some; ends = λ task stack h. absurd cc; rings = λ task stack h. absurd cc }

pub stacks-start : (heap ring : ℕ) → stacks_of [] ring ≡ stacks_at_start (program_map heap) ring
unfolding program_map
stacks-start heap ring = refl

pub stacks-added : (stacks : List OneStack) (ring : ℕ) (new : OneStack) → AreTaskStacks stacks ring → length stacks < MOST_TASKS
    → new.end ≡ STACKS_AT + (length stacks + 1) * STACK_LENGTH → new.ring ≡ ring → AreTaskStacks (stacks ++ new ∷ []) ring
stacks-added stacks ring new are room end rings =
    let count = length-append stacks (new ∷ []) in
    record {
      few = omega (arith, count, room);
      some = are.some;
      ends = each-added (λ task (stack : OneStack). stack.end ≡ STACKS_AT + (task + 1) * STACK_LENGTH) stacks new are.ends end;
      rings = each-added (λ task (stack : OneStack). stack.ring ≡ ring) stacks new are.rings rings;
    }

pub view-added : (stacks : List OneStack) (ring : ℕ) (new : OneStack) → new.frames ≡ no_frames → stacks_of (stacks ++ new ∷ []) ring ≡ with_task (stacks_of stacks ring)
view-added stacks ring new none =
    ap (λ (tasks : List TaskFrames). record (stacks_of stacks ring) { tasks = tasks })
    (map_push (λ (stack : OneStack). stack.frames) stacks new ∙ ap (λ (frames : TaskFrames). map (λ (stack : OneStack). stack.frames) stacks ++ frames ∷ []) none)

pub stacks-pushed : (t : Bool) (stacks : List OneStack) (ring : ℕ) (new : OneStack) → AreTaskStacks stacks ring → AreTaskStacks (stacks ++ new ∷ []) ring
    → AreTaskStacks (if t then stacks ++ new ∷ [] else stacks) ring
stacks-pushed true stacks ring new are more = more
stacks-pushed false stacks ring new are more = are

-- a task that was started is kept
pub started-inside : (stacks : List OneStack) (ring task : ℕ) (now : StacksState) → stacks_of stacks ring ≡ now → task < length now.tasks → task < length stacks
started-inside stacks ring task now view started =
    let same : length (stacks_of stacks ring).tasks ≡ length stacks = length-map stacks (λ (stack : OneStack). stack.frames) in
    let seen : length (stacks_of stacks ring).tasks ≡ length now.tasks = ap (λ (s : StacksState). length s.tasks) view in
    omega (arith, same, seen, started)

-- ---- no such task

pub frames-none : (stacks : List OneStack) (ring task : ℕ) → slice_get stacks task ≡ None → frames_of (stacks_of stacks ring) task ≡ no_frames
frames-none stacks ring task there =
    ap (λ (o : Option TaskFrames). unwrap_or o no_frames) (slice_get-map (λ (stack : OneStack). stack.frames) stacks task ∙ ap (option_map (λ (stack : OneStack). stack.frames)) there)

pub left-none : (stacks : StacksState) (space : AddressSpace) (task died : ℕ) → frames_of stacks task ≡ no_frames → left stacks space task died ≡ record { stacks = stacks; space = space }
unfolding left
left-none stacks space task died none = ap (λ (frames : TaskFrames). after_exit stacks space task died frames.living) none

-- ---- a task's stack

module _ (stacks : List OneStack) (ring task : ℕ) (old : OneStack) (there : slice_get stacks task ≡ Some old) where
  pub frames-at : frames_of (stacks_of stacks ring) task ≡ old.frames
  frames-at =
      ap (λ (o : Option TaskFrames). unwrap_or o no_frames) (slice_get-map (λ (stack : OneStack). stack.frames) stacks task ∙ ap (option_map (λ (stack : OneStack). stack.frames)) there)

  pub view-set : (new : OneStack) → stacks_of (set stacks task new) ring ≡ record (stacks_of stacks ring) { tasks = slice_set (stacks_of stacks ring).tasks task new.frames }
  view-set new = ap (λ (tasks : List TaskFrames). record (stacks_of stacks ring) { tasks = tasks }) (map-set (λ (stack : OneStack). stack.frames) stacks task new)

  pub length-kept : (new : OneStack) → length (stacks_of (set stacks task new) ring).tasks ≡ length (stacks_of stacks ring).tasks
  length-kept new =
      length-map (set stacks task new) (λ (stack : OneStack). stack.frames) ∙ length-set stacks task new ∙ sym (length-map stacks (λ (stack : OneStack). stack.frames))

  module _ (are : AreTaskStacks stacks ring) where
    pub stacks-set : (new : OneStack) → new.end ≡ old.end → new.ring ≡ old.ring → AreTaskStacks (set stacks task new) ring
    stacks-set new end rings =
        let count = length-set stacks task new in
        let few = are.few in
        record {
          few = omega (arith, count, few);
          some = are.some;
          ends = each-set (λ k (stack : OneStack). stack.end ≡ STACKS_AT + (k + 1) * STACK_LENGTH) stacks task new are.ends (end ∙ are.ends task old there);
          rings = each-set (λ k (stack : OneStack). stack.ring ≡ ring) stacks task new are.rings (rings ∙ are.rings task old there);
        }

    end-at : stack_end (stacks_of stacks ring) task ≡ old.end
    end-at = sym (are.ends task old there)

    pub top-at : top_of_stack (stacks_of stacks ring) task ≡ top_above old.end old.frames.living
    top-at =
        ap (λ (end : ℕ). top_above end (frames_of (stacks_of stacks ring) task).living) end-at ∙ ap (λ (frames : TaskFrames). top_above old.end frames.living) frames-at

    size-at : living_size (stacks_of stacks ring) task ≡ bytes_of old
    size-at =
        ap (λ (end : ℕ). end - top_of_stack (stacks_of stacks ring) task) end-at ∙ ap (λ (top : ℕ). old.end - top) top-at

    -- the task's newest frame, after another has come
    pub top-after : (new : OneStack) → new.end ≡ old.end → top_of_stack (stacks_of (set stacks task new) ring) task ≡ top_above new.end new.frames.living
    top-after new end =
        let at : frames_of (stacks_of (set stacks task new) ring) task ≡ new.frames =
        ap (λ (o : Option TaskFrames). unwrap_or o no_frames)
        (slice_get-map (λ (stack : OneStack). stack.frames) (set stacks task new) task ∙ ap (option_map (λ (stack : OneStack). stack.frames)) (get-set stacks task old new there)) in
        ap (λ (e : ℕ). top_above e (frames_of (stacks_of (set stacks task new) ring) task).living) (end-at ∙ sym end)
        ∙ ap (λ (frames : TaskFrames). top_above new.end frames.living) at
      where
        get-set : (xs : List OneStack) (k : ℕ) (x y : OneStack) → slice_get xs k ≡ Some x → slice_get (set xs k y) k ≡ Some y
        get-set [] k x y h = absurd cc
        get-set (z ∷ xs) zero x y h = refl
        get-set (z ∷ xs) (suc k) x y h = get-set xs k x y h

    -- ---- an entry

    module _ (space : AddressSpace) (func word : ℕ) (sizes : List ℕ) (birth born : ℕ) where
      frame-at : new_frame (stacks_of stacks ring) task func word sizes birth born ≡ frame_on old func word sizes birth born
      frame-at =
          ap
          (λ (top : ℕ). record {
            frame = record { func = func; low = top - frame_size sizes; word = word; birth = birth; born = born; died = None };
            sizes = sizes;
          })
          top-at

      after-at : after_entry (stacks_of stacks ring) space task (frame_on old func word sizes birth born)
          ≡ record {
            stacks = stacks_of (set stacks task (with_entered old (frame_on old func word sizes birth born))) ring;
            space = with_variables space word 0 (frame_on old func word sizes birth born).frame.low sizes;
          }
      unfolding after_entry
      after-at =
          ap (λ (s : StacksState). record { stacks = s; space = with_variables space word 0 (frame_on old func word sizes birth born).frame.low sizes })
          (ap (λ (frames : TaskFrames). record (stacks_of stacks ring) { tasks = slice_set (stacks_of stacks ring).tasks task (with_frame frames (frame_on old func word sizes birth born)) }) frames-at
          ∙ sym (view-set (with_entered old (frame_on old func word sizes birth born))))

      entered_by : Bool → Full → Result StacksAfter Full
      entered_by t full = elim t [ true ↦ Ok (after_entry (stacks_of stacks ring) space task (new_frame (stacks_of stacks ring) task func word sizes birth born)) | false ↦ Err full ]

      by-fits : (t : Bool) (own full : Full) → refusal_by t own ≡ None → entered_by t full ≡ Ok (after_entry (stacks_of stacks ring) space task (new_frame (stacks_of stacks ring) task func word sizes birth born))
      unfolding entered_by
      by-fits true own full h = refl
      by-fits false own full h = absurd cc

      pub entered-fits : stack_refusal old (frame_size sizes) ≡ None
          → entered (stacks_of stacks ring) space task func word sizes birth born
          ≡ Ok (record {
            stacks = stacks_of (set stacks task (with_entered old (frame_on old func word sizes birth born))) ring;
            space = with_variables space word 0 (frame_on old func word sizes birth born).frame.low sizes;
          })
      unfolding entered entered_by
      entered-fits none =
          ap (λ (size : ℕ). entered_by (nat_le (size + frame_size sizes) STACK_LENGTH) (record { space = Stack; asked = frame_size sizes; living = size })) size-at
          ∙ by-fits (nat_le (bytes_of old + frame_size sizes) STACK_LENGTH) (record { space = Stack; asked = frame_size sizes; living = bytes_of old })
          (record { space = Stack; asked = frame_size sizes; living = bytes_of old }) none
          ∙ ap (λ (f : LivingFrame). Ok (after_entry (stacks_of stacks ring) space task f)) frame-at
          ∙ ap (λ (a : StacksAfter). Ok a) after-at

      by-test : (t : Bool) (own full : Full) → refusal_by t own ≡ Some full → entered_by t own ≡ Err full
      unfolding entered_by
      by-test true own full h = absurd cc
      by-test false own full h = let same : own ≡ full = cc in ap (λ (f : Full). Err f) same

      pub entered-full : (full : Full) → stack_refusal old (frame_size sizes) ≡ Some full → entered (stacks_of stacks ring) space task func word sizes birth born ≡ Err full
      unfolding entered entered_by
      entered-full full h =
          ap (λ (size : ℕ). entered_by (nat_le (size + frame_size sizes) STACK_LENGTH) (record { space = Stack; asked = frame_size sizes; living = size })) size-at
          ∙ by-test (nat_le (bytes_of old + frame_size sizes) STACK_LENGTH) (record { space = Stack; asked = frame_size sizes; living = bytes_of old }) full h

    -- ---- an entry, by what the task's stack says

    module _ (space : AddressSpace) (func word : ℕ) (sizes : List ℕ) (birth born : ℕ) (r : Result ℕ EnterError) (new : OneStack) where
      ends-kept : (r : Result ℕ EnterError) → OnOk r (new ≡ with_entered old (frame_on old func word sizes birth born)) → ((error : EnterError) → r ≡ Err error → new ≡ old) → new.end ≡ old.end
      ends-kept (Ok low) frame stays = ap (λ (o : OneStack). o.end) frame
      ends-kept (Err error) frame stays = ap (λ (o : OneStack). o.end) (stays error refl)

      rings-kept : (r : Result ℕ EnterError) → OnOk r (new ≡ with_entered old (frame_on old func word sizes birth born)) → ((error : EnterError) → r ≡ Err error → new ≡ old) → new.ring ≡ old.ring
      rings-kept (Ok low) frame stays = ap (λ (o : OneStack). o.ring) frame
      rings-kept (Err error) frame stays = ap (λ (o : OneStack). o.ring) (stays error refl)

      pub stacks-entry : OnOk r (new ≡ with_entered old (frame_on old func word sizes birth born)) → ((error : EnterError) → r ≡ Err error → new ≡ old) → AreTaskStacks (set stacks task new) ring
      stacks-entry frame stays = stacks-set new (ends-kept r frame stays) (rings-kept r frame stays)

      pub ok-entry : (now : StacksState) (after : AddressSpace) → stacks_of stacks ring ≡ now
          → OnOk r (stack_refusal old (frame_size sizes) ≡ None) → OnOk r (new ≡ with_entered old (frame_on old func word sizes birth born))
          → OnOk r (after ≡ with_variables space word 0 (frame_on old func word sizes birth born).frame.low sizes)
          → OnOk r (entered now space task func word sizes birth born ≡ Ok (record { stacks = stacks_of (set stacks task new) ring; space = after }))
      ok-entry now after view fits frame memory = on r fits frame memory
        where
          on : (r : Result ℕ EnterError) → OnOk r (stack_refusal old (frame_size sizes) ≡ None) → OnOk r (new ≡ with_entered old (frame_on old func word sizes birth born))
              → OnOk r (after ≡ with_variables space word 0 (frame_on old func word sizes birth born).frame.low sizes)
              → OnOk r (entered now space task func word sizes birth born ≡ Ok (record { stacks = stacks_of (set stacks task new) ring; space = after }))
          on (Ok low) fits frame memory =
              ap (λ (s : StacksState). entered s space task func word sizes birth born) (sym view)
              ∙ entered-fits space func word sizes birth born fits
              ∙ ap (λ (o : OneStack). Ok (record { stacks = stacks_of (set stacks task o) ring; space = with_variables space word 0 (frame_on old func word sizes birth born).frame.low sizes })) (sym frame)
              ∙ ap (λ (m : AddressSpace). Ok (record { stacks = stacks_of (set stacks task new) ring; space = m })) (sym memory)
          on (Err error) fits frame memory = fits

      pub low-entry : OnOk r (new ≡ with_entered old (frame_on old func word sizes birth born)) → IfOk r (λ low. low ≡ top_above new.end new.frames.living)
          → IfOk r (λ low. low ≡ top_of_stack (stacks_of (set stacks task new) ring) task)
      low-entry frame low = on r frame low
        where
          on : (r : Result ℕ EnterError) → OnOk r (new ≡ with_entered old (frame_on old func word sizes birth born)) → IfOk r (λ low. low ≡ top_above new.end new.frames.living)
              → IfOk r (λ low. low ≡ top_of_stack (stacks_of (set stacks task new) ring) task)
          on (Ok at) frame low = low ∙ sym (top-after new (ap (λ (o : OneStack). o.end) frame))
          on (Err error) frame low = low

    -- ---- a return

    module _ (space : AddressSpace) (died : ℕ) where
      exit-by : (living : List LivingFrame)
          → after_exit (stacks_of stacks ring) space task died living
          ≡ record { stacks = stacks_of (set stacks task (record old { frames = frames_left ring died living old.frames })) ring; space = memory_left space living }
      exit-by [] = ap (λ (ss : List OneStack). record { stacks = stacks_of ss ring; space = space }) (sym (set-same stacks task old there))
      exit-by (newest ∷ older) =
          ap (λ (s : StacksState). record { stacks = s; space = memory_left space (newest ∷ older) })
          (ap (λ (frames : TaskFrames). record (stacks_of stacks ring) { tasks = slice_set (stacks_of stacks ring).tasks task (without_newest ring died newest older frames.ended) }) frames-at
          ∙ sym (view-set (record old { frames = frames_left ring died (newest ∷ older) old.frames })))

      pub left-at : left (stacks_of stacks ring) space task died
          ≡ record { stacks = stacks_of (set stacks task (record old { frames = frames_left old.ring died old.frames.living old.frames })) ring; space = memory_left space old.frames.living }
      unfolding left
      left-at =
          ap (λ (frames : TaskFrames). after_exit (stacks_of stacks ring) space task died frames.living) frames-at
          ∙ exit-by old.frames.living
          ∙ ap (λ (size : ℕ). record { stacks = stacks_of (set stacks task (record old { frames = frames_left size died old.frames.living old.frames })) ring; space = memory_left space old.frames.living })
          (sym (are.rings task old there))
