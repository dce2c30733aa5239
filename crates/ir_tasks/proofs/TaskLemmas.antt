-- The frames of the tasks, after a frame changes, and a task starts or finishes.
use Rattle.std.proofs.Common.{◌≡◌, ℕ, zero, suc, ◌+◌, ◌-◌, ◌^◌, ◌<◌, ◌≤◌, Bool, true, false, List, [], ◌∷◌, ◌++◌, length, set, get_or, Some, refl, sym, ◌∙◌, ap, subst, arith}
use Rattle.std.specs.Prelude.{All, slice_get}
use Rattle.std.specs.Option.{option_map}
use Rattle.std.proofs.lemmas.List.{length-append, length-map, length-set, map-append, map-set}
use Rattle.std.proofs.lemmas.Option.{slice_get-get_or, slice_get-map, slice_get_within}
use Rattle.hw_base.specs.declared.numbers.TheConstants.{MOST_FRAMES, MOST_TASKS}
use Rattle.hw_tags.specs.TaskRuns.{is_finished, finished_of}
use Rattle.hw_tags.specs.Turn.{unfinished_of}
use Rattle.ir_tasks.specs.Frames.{Frame}
use Rattle.ir_tasks.specs.TaskFrames.{IsUnfinished, HasFrames, AreKept, AreTasks, unfinished_count}
use Rattle.ir_tasks.proofs.UnfinishedCounts.{unfinished_from-few, unfinished_from-started, unfinished_from-finished}

-- ---- lists

pub set-same : {X : Type 0} (xs : List X) (k : ℕ) (x : X) → slice_get xs k ≡ Some x → set xs k x ≡ xs
set-same [] k x h = refl
set-same (y ∷ xs) zero x h = let same : x ≡ y = cc in ap (λ z. z ∷ xs) same
set-same (y ∷ xs) (suc k) x h = ap (λ rest. y ∷ rest) (set-same xs k x h)

-- what holds of each element, after one is set or added
each-set : {X : Type 0} (P : X → Type 0) (xs : List X) (k : ℕ) (x : X) → ((i : ℕ) (y : X) → slice_get xs i ≡ Some y → P y) → P x
    → (i : ℕ) (y : X) → slice_get (set xs k x) i ≡ Some y → P y
each-set P [] k x each new i y h = each i y h
each-set P (z ∷ xs) zero x each new zero y h = let same : x ≡ y = cc in subst P same new
each-set P (z ∷ xs) zero x each new (suc i) y h = each (suc i) y h
each-set P (z ∷ xs) (suc k) x each new zero y h = each zero y h
each-set P (z ∷ xs) (suc k) x each new (suc i) y h = each-set P xs k x (λ j w there. each (suc j) w there) new i y h

each-added : {X : Type 0} (P : X → Type 0) (xs : List X) (x : X) → ((i : ℕ) (y : X) → slice_get xs i ≡ Some y → P y) → P x
    → (i : ℕ) (y : X) → slice_get (xs ++ x ∷ []) i ≡ Some y → P y
each-added P [] x each new zero y h = let same : x ≡ y = cc in subst P same new
each-added P [] x each new (suc i) y h = absurd cc
each-added P (z ∷ xs) x each new zero y h = each zero y h
each-added P (z ∷ xs) x each new (suc i) y h = each-added P xs x (λ j w there. each (suc j) w there) new i y h

-- ---- the frames of one task

pub AreKept-added : (frame : Frame) (frames : List Frame) → AreKept frames → length frames < MOST_FRAMES → frame.place < 2 ^ 32 → AreKept (frame ∷ frames)
AreKept-added frame frames kept room place = record { few = omega (arith, room); places = places }
  where
    places : All (λ (f : Frame). f.place < 2 ^ 32) (frame ∷ frames)
    places zero d inside = place
    places (suc k) d inside = kept.places k d (omega (arith, inside))

pub AreKept-callers : (frame : Frame) (callers : List Frame) → AreKept (frame ∷ callers) → AreKept callers
AreKept-callers frame callers kept = record {
  few = let few = kept.few in omega (arith, few);
  places = λ k d inside. kept.places (suc k) d (omega (arith, inside));
}

pub AreKept-changed : (old new : Frame) (callers : List Frame) → AreKept (old ∷ callers) → new.place < 2 ^ 32 → AreKept (new ∷ callers)
AreKept-changed old new callers kept place =
    let few = kept.few in
    AreKept-added new callers (AreKept-callers old callers kept) (omega (arith, few)) place

pub newest-place : (frame : Frame) (callers frames : List Frame) → frames ≡ frame ∷ callers → AreKept frames → frame.place < 2 ^ 32
newest-place frame callers frames is kept = (subst AreKept is kept).places zero frame (omega arith)

-- an unfinished task has a frame
pub some_frame : (frames : List Frame) → is_finished frames ≡ false → (frame : Frame) × (callers : List Frame) × (frames ≡ frame ∷ callers)
some_frame [] h = absurd cc
some_frame (frame ∷ callers) h = (frame, callers, refl)

pub no_frame : (frames : List Frame) → is_finished frames ≡ true → frames ≡ []
no_frame [] h = refl
no_frame (frame ∷ callers) h = absurd cc

-- ---- one task among the tasks

pub finished_of-at : (tasks : List (List Frame)) (task : ℕ) (frames : List Frame) → slice_get tasks task ≡ Some frames → slice_get (finished_of tasks) task ≡ Some (is_finished frames)
finished_of-at tasks task frames there = slice_get-map is_finished tasks task ∙ ap (option_map is_finished) there

pub unfinished-at : (tasks : List (List Frame)) (task : ℕ) (frames : List Frame) → slice_get tasks task ≡ Some frames → IsUnfinished tasks task → is_finished frames ≡ false
unfinished-at tasks task frames there unfinished = let bit = finished_of-at tasks task frames there in cc

-- an unfinished task has frames, and one that has frames is unfinished
pub has_frames : (tasks : List (List Frame)) (task : ℕ) → IsUnfinished tasks task → (frame : Frame) × (callers : List Frame) × HasFrames tasks task frame callers
has_frames tasks task unfinished =
    let started : task < length (finished_of tasks) = slice_get_within (finished_of tasks) task false unfinished in
    let same : length (finished_of tasks) ≡ length tasks = length-map tasks is_finished in
    let there : slice_get tasks task ≡ Some (get_or tasks task []) = slice_get-get_or tasks task [] (omega (arith, started, same)) in
    let (frame, callers, is) = some_frame (get_or tasks task []) (unfinished-at tasks task (get_or tasks task []) there unfinished) in
    (frame, callers, there ∙ ap Some is)

pub has_frames-unfinished : (tasks : List (List Frame)) (task : ℕ) (frame : Frame) (callers : List Frame) → HasFrames tasks task frame callers → IsUnfinished tasks task
has_frames-unfinished tasks task frame callers has = finished_of-at tasks task (frame ∷ callers) has

pub finished_of-kept : (tasks : List (List Frame)) (task : ℕ) (frames : List Frame) → IsUnfinished tasks task → is_finished frames ≡ false → finished_of (set tasks task frames) ≡ finished_of tasks
finished_of-kept tasks task frames unfinished goes_on =
    map-set is_finished tasks task frames ∙ ap (set (finished_of tasks) task) goes_on ∙ set-same (finished_of tasks) task false unfinished

pub AreTasks-kept : (tasks : List (List Frame)) (count task : ℕ) (frames : List Frame) → AreTasks tasks count → IsUnfinished tasks task
    → AreKept frames → is_finished frames ≡ false → AreTasks (set tasks task frames) count
AreTasks-kept tasks count task frames are unfinished kept goes_on = record {
  few = let few = are.few in let same : length (set tasks task frames) ≡ length tasks = length-set tasks task frames in omega (arith, few, same);
  each = each-set AreKept tasks task frames are.each kept;
  counted = are.counted ∙ ap (λ (finished : List Bool). length (unfinished_of finished)) (sym (finished_of-kept tasks task frames unfinished goes_on));
}

pub count-finished : (tasks : List (List Frame)) (task : ℕ) → IsUnfinished tasks task → unfinished_count tasks ≡ suc (unfinished_count (set tasks task []))
count-finished tasks task unfinished =
    unfinished_from-finished 0 (finished_of tasks) task unfinished
    ∙ ap (λ (finished : List Bool). suc (length (unfinished_of finished))) (sym (map-set is_finished tasks task []))

pub AreTasks-finished : (tasks : List (List Frame)) (count task : ℕ) → AreTasks tasks count → IsUnfinished tasks task → AreTasks (set tasks task []) (count - 1)
AreTasks-finished tasks count task are unfinished = record {
  few = let few = are.few in let same : length (set tasks task []) ≡ length tasks = length-set tasks task [] in omega (arith, few, same);
  each = each-set AreKept tasks task [] are.each (record { few = omega arith; places = λ k d inside. absurd (omega (arith, inside)) });
  counted = let counted = are.counted in let fewer = count-finished tasks task unfinished in omega (arith, counted, fewer);
}

pub AreTasks-started : (tasks : List (List Frame)) (count : ℕ) (frame : Frame) → AreTasks tasks count → length tasks < MOST_TASKS → frame.place < 2 ^ 32
    → AreTasks (tasks ++ (frame ∷ []) ∷ []) (count + 1)
AreTasks-started tasks count frame are room place = record {
  few = let more : length (tasks ++ (frame ∷ []) ∷ []) ≡ length tasks + 1 = length-append tasks ((frame ∷ []) ∷ []) in omega (arith, room, more);
  each = each-added AreKept tasks (frame ∷ []) are.each
      (AreKept-added frame [] (record { few = omega arith; places = λ k d inside. absurd (omega (arith, inside)) }) (omega arith) place);
  counted =
      let counted = are.counted in
      let added : finished_of (tasks ++ (frame ∷ []) ∷ []) ≡ finished_of tasks ++ false ∷ [] = map-append is_finished tasks ((frame ∷ []) ∷ []) in
      let more : length (unfinished_of (finished_of tasks ++ false ∷ [])) ≡ length (unfinished_of (finished_of tasks)) + 1 = unfinished_from-started 0 (finished_of tasks) in
      let same : length (unfinished_of (finished_of (tasks ++ (frame ∷ []) ∷ []))) ≡ length (unfinished_of (finished_of tasks ++ false ∷ [])) = ap (λ (finished : List Bool). length (unfinished_of finished)) added in
      omega (arith, counted, more, same);
}

pub AreTasks-none : AreTasks [] 0
unfolding Rattle.hw_tags.specs.Turn.unfinished_from
AreTasks-none = record { few = omega arith; each = λ task frames h. absurd cc; counted = refl }

pub count-few : (tasks : List (List Frame)) (count : ℕ) → AreTasks tasks count → count ≤ MOST_TASKS
count-few tasks count are =
    let counted = are.counted in
    let few = are.few in
    let fewer : length (unfinished_of (finished_of tasks)) ≤ length (finished_of tasks) = unfinished_from-few 0 (finished_of tasks) in
    let same : length (finished_of tasks) ≡ length tasks = length-map tasks is_finished in
    omega (arith, counted, few, fewer, same)
