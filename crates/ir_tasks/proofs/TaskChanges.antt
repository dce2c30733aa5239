-- The frames of the tasks as they are kept, when one of them changes.
use Rattle.std.proofs.Common.{◌≡◌, ℕ, ◌+◌, ◌-◌, ◌^◌, ◌<◌, ◌≤◌, false, List, [], ◌∷◌, ◌++◌, length, map, set, get_or, Some, sym, ◌∙◌, ap, subst, refl, inl, inr, arith}
use Rattle.std.specs.Prelude.{◌⊎◌, slice_get, Result, Ok, Err, OnOk, OnErr}
use Rattle.hw_base.specs.declared.numbers.TheConstants.{MOST_FRAMES, MOST_TASKS}
use Rattle.ir_tasks.specs.CallStacks.{Calls}
use Rattle.ir_tasks.specs.declared.task.Task.TheVariants.{Running}
use Rattle.std.specs.Option.{option_map}
use Rattle.std.proofs.lemmas.List.{length-map, map-set, map_push}
use Rattle.std.proofs.lemmas.Option.{slice_get-map, slice_get_read, slice_get_within}
use Rattle.hw_tags.specs.TaskRuns.{is_finished, finished_of}
use Rattle.ir_tasks.specs.Frames.{Frame}
use Rattle.ir_tasks.specs.TaskFrames.{IsUnfinished, AreKept, AreTasks}
use Rattle.ir_tasks.specs.TaskStates.{task_frames}
use Rattle.ir_tasks.specs.declared.task.Task.{Task}
use Rattle.ir_tasks.proofs.TaskLemmas.{set-same, AreKept-added, AreKept-callers, AreKept-changed, AreTasks-kept, AreTasks-finished, AreTasks-started, count-finished, finished_of-kept, newest-place, some_frame, unfinished-at}

by_result : {X E P Q : Type 0} (r : Result X E) → OnOk r P → OnErr r Q → P ⊎ Q
by_result (Ok x) ok err = inl ok
by_result (Err e) ok err = inr err

on_ok : {X E P Q : Type 0} (r : Result X E) → (P → Q) → OnOk r P → OnOk r Q
on_ok (Ok x) then ok = then ok
on_ok (Err e) then ok = ok

on_err : {X E P Q : Type 0} (r : Result X E) → (P → Q) → OnErr r P → OnErr r Q
on_err (Ok x) then err = err
on_err (Err e) then err = then err

-- a task that starts
pub started-tasks : (items after : List Task) (count : ℕ) (calls : Calls) (frame : Frame) → after ≡ items ++ Running calls ∷ [] → calls ≡ record { frame = frame; callers = [] }
    → AreTasks (map task_frames items) count → length items < MOST_TASKS → frame.place < 2 ^ 32 → AreTasks (map task_frames after) (count + 1)
started-tasks items after count calls frame is new are room place =
    let same : length (map task_frames items) ≡ length items = length-map items task_frames in
    let added : map task_frames after ≡ map task_frames items ++ (frame ∷ []) ∷ [] =
    ap (map task_frames) is ∙ map_push task_frames items (Running calls) ∙ ap (λ (c : Calls). map task_frames items ++ (c.frame ∷ c.callers) ∷ []) new in
    subst (λ (ts : List (List Frame)). AreTasks ts (count + 1)) (sym added) (AreTasks-started (map task_frames items) count frame are (omega (arith, same, room)) place)

-- a task that was started is kept
pub started-inside : (items : List Task) (tasks : List (List Frame)) (task : ℕ) → map task_frames items ≡ tasks → task < length tasks → task < length items
started-inside items tasks task view started =
    let same : length (map task_frames items) ≡ length items = length-map items task_frames in
    let seen : length (map task_frames items) ≡ length tasks = ap (λ (ts : List (List Frame)). length ts) view in
    omega (arith, same, seen, started)

pub unfinished-inside : (items : List Task) (tasks : List (List Frame)) (task : ℕ) → map task_frames items ≡ tasks → IsUnfinished tasks task → task < length items
unfinished-inside items tasks task view unfinished =
    let started : task < length (finished_of tasks) = slice_get_within (finished_of tasks) task false unfinished in
    let same : length (finished_of tasks) ≡ length tasks = length-map tasks is_finished in
    started-inside items tasks task view (omega (arith, same, started))

-- a task that is read, at its number
module _ (items : List Task) (task : ℕ) (old : Task) (inside : task < length items) (read : old ≡ get_or items task old) where
  pub frames-read : slice_get (map task_frames items) task ≡ Some (task_frames old)
  frames-read = slice_get-map task_frames items task ∙ ap (option_map task_frames) (slice_get_read items (length items) task old refl inside read)

  -- and the tasks with another in its place
  module _ (tasks : List (List Frame)) (view : map task_frames items ≡ tasks) (new : Task) where
    pub frames-at : slice_get tasks task ≡ Some (task_frames old)
    frames-at = subst (λ (ts : List (List Frame)). slice_get ts task ≡ Some (task_frames old)) view frames-read

    pub same-frames : (frames : List Frame) → slice_get tasks task ≡ Some frames → task_frames old ≡ frames
    same-frames frames there = let here = frames-at in cc

    pub frames-set : (frames : List Frame) → task_frames new ≡ frames → map task_frames (set items task new) ≡ set tasks task frames
    frames-set frames is =
        map-set task_frames items task new ∙ ap (λ (ts : List (List Frame)). set ts task (task_frames new)) view ∙ ap (set tasks task) is

    pub old-unfinished : IsUnfinished tasks task → is_finished (task_frames old) ≡ false
    old-unfinished unfinished = unfinished-at tasks task (task_frames old) frames-at unfinished

    pub AreTasks-view : (count : ℕ) → AreTasks (map task_frames items) count → AreTasks tasks count
    AreTasks-view count are = subst (λ (ts : List (List Frame)). AreTasks ts count) view are

    pub old-kept : (count : ℕ) → AreTasks (map task_frames items) count → AreKept (task_frames old)
    old-kept count are = are.each task (task_frames old) frames-read

    -- a task that goes on
    pub kept-on : (count : ℕ) → IsUnfinished tasks task → AreTasks (map task_frames items) count → AreKept (task_frames new) → is_finished (task_frames new) ≡ false
        → AreTasks (map task_frames (set items task new)) count
    kept-on count unfinished are kept goes_on =
        subst (λ (ts : List (List Frame)). AreTasks ts count) (sym (frames-set (task_frames new) refl))
        (AreTasks-kept tasks count task (task_frames new) (AreTasks-view count are) unfinished kept goes_on)

    pub finished-same : IsUnfinished tasks task → is_finished (task_frames new) ≡ false → finished_of (map task_frames (set items task new)) ≡ finished_of tasks
    finished-same unfinished goes_on =
        ap (λ (ts : List (List Frame)). finished_of ts) (frames-set (task_frames new) refl) ∙ finished_of-kept tasks task (task_frames new) unfinished goes_on

    -- the task's newest frame ends, and it was the last one
    pub finished-tasks : (count : ℕ) → IsUnfinished tasks task → AreTasks (map task_frames items) count → task_frames new ≡ [] → AreTasks (map task_frames (set items task new)) (count - 1)
    finished-tasks count unfinished are none =
        subst (λ (ts : List (List Frame)). AreTasks ts (count - 1)) (sym (frames-set [] none)) (AreTasks-finished tasks count task (AreTasks-view count are) unfinished)

    pub some-unfinished : (count : ℕ) → IsUnfinished tasks task → AreTasks (map task_frames items) count → 1 ≤ count
    some-unfinished count unfinished are =
        let counted = (AreTasks-view count are).counted in
        let fewer = count-finished tasks task unfinished in
        omega (arith, counted, fewer)

    -- and it was not the last one
    pub popped-tasks : (count : ℕ) → IsUnfinished tasks task → AreTasks (map task_frames items) count
        → ((frame : Frame) (callers : List Frame) → task_frames old ≡ frame ∷ callers → task_frames new ≡ callers) → is_finished (task_frames new) ≡ false
        → AreTasks (map task_frames (set items task new)) count
    popped-tasks count unfinished are popped goes_on =
        let (frame, callers, is) = some_frame (task_frames old) (old-unfinished unfinished) in
        kept-on count unfinished are (subst AreKept (sym (popped frame callers is)) (AreKept-callers frame callers (subst AreKept is (old-kept count are)))) goes_on

    -- the task calls a function, or memory runs out
    module _ {X E : Type 0} (r : Result X E) (fresh : Frame) (place : fresh.place < 2 ^ 32) (ok : OnOk r (task_frames new ≡ fresh ∷ task_frames old))
        (err : OnErr r (task_frames new ≡ task_frames old)) (unfinished : IsUnfinished tasks task)
      where
        pushed-goes_on : is_finished (task_frames new) ≡ false
        pushed-goes_on =
            elim (by_result r ok err) [
              | inl pushed ↦ ap is_finished pushed
              | inr same ↦ ap is_finished same ∙ old-unfinished unfinished
            ]

        pub pushed-finished : finished_of (map task_frames (set items task new)) ≡ finished_of tasks
        pushed-finished = finished-same unfinished pushed-goes_on

        pub pushed-tasks : (count : ℕ) → AreTasks (map task_frames items) count → ((frames : List Frame) → slice_get tasks task ≡ Some frames → length frames < MOST_FRAMES)
            → AreTasks (map task_frames (set items task new)) count
        pushed-tasks count are room =
            kept-on count unfinished are
            (elim (by_result r ok err) [
              | inl pushed ↦ subst AreKept (sym pushed) (AreKept-added fresh (task_frames old) (old-kept count are) (room (task_frames old) frames-at) place)
              | inr same ↦ subst AreKept (sym same) (old-kept count are)
            ])
            pushed-goes_on

        pub pushed-ok : OnOk r ((frames : List Frame) → slice_get tasks task ≡ Some frames → map task_frames (set items task new) ≡ set tasks task (fresh ∷ frames))
        pushed-ok =
            on_ok r
            (λ pushed frames there. frames-set (fresh ∷ frames) (pushed ∙ ap (λ (fs : List Frame). fresh ∷ fs) (same-frames frames there)))
            ok

        pub pushed-err : OnErr r (map task_frames (set items task new) ≡ tasks)
        pushed-err = on_err r (λ same. frames-set (task_frames old) same ∙ set-same tasks task (task_frames old) frames-at) err

    -- the newest frame changes
    module _ (change : Frame → Frame) (changed : (frame : Frame) (callers : List Frame) → task_frames old ≡ frame ∷ callers → task_frames new ≡ change frame ∷ callers)
        (unfinished : IsUnfinished tasks task)
      where
        changed-goes_on : is_finished (task_frames new) ≡ false
        changed-goes_on =
            let (frame, callers, is) = some_frame (task_frames old) (old-unfinished unfinished) in
            ap is_finished (changed frame callers is)

        pub changed-finished : finished_of (map task_frames (set items task new)) ≡ finished_of tasks
        changed-finished = finished-same unfinished changed-goes_on

        pub changed-tasks : (count : ℕ) → AreTasks (map task_frames items) count → ((frame : Frame) → frame.place < 2 ^ 32 → (change frame).place < 2 ^ 32)
            → AreTasks (map task_frames (set items task new)) count
        changed-tasks count are place =
            let (frame, callers, is) = some_frame (task_frames old) (old-unfinished unfinished) in
            let kept = old-kept count are in
            kept-on count unfinished are
            (subst AreKept (sym (changed frame callers is))
            (AreKept-changed frame (change frame) callers (subst AreKept is kept) (place frame (newest-place frame callers (task_frames old) is kept))))
            changed-goes_on
