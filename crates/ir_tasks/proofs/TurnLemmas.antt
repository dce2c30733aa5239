-- The unfinished tasks from a task on.
use Rattle.std.proofs.Common.{◌≡◌, ℕ, zero, suc, ◌+◌, ◌-◌, ◌<◌, ◌≤◌, Bool, true, false, List, [], ◌∷◌, length, map, drop, get_or, Some, sym, ◌∙◌, ap, arith}
use Rattle.std.specs.Prelude.{slice_get}
use Rattle.std.proofs.lemmas.List.{drop_all, drop_more}
use Rattle.std.proofs.lemmas.Option.{get_or_from_slice_get, slice_get-get_or, slice_get_within}
use Rattle.hw_tags.specs.TaskRuns.{is_finished, finished_of}
use Rattle.hw_tags.specs.Turn.{unfinished_from, unfinished_of}
use Rattle.ir_tasks.specs.TaskStates.{task_frames}
use Rattle.ir_tasks.specs.declared.task.Task.{Task}
use Rattle.ir_tasks.proofs.TaskChanges.{frames-read}
use Rattle.ir_tasks.proofs.TaskLemmas.{finished_of-at}

drop-at : (finished : List Bool) (task : ℕ) (bit : Bool) → slice_get finished task ≡ Some bit → drop task finished ≡ bit ∷ drop (task + 1) finished
drop-at finished task bit there =
    drop_more finished task bit (slice_get_within finished task bit there)
    ∙ ap (λ (b : Bool). b ∷ drop (task + 1) finished) (get_or_from_slice_get finished task bit bit there)

unfinished_from-passed : (finished : List Bool) (task : ℕ) → slice_get finished task ≡ Some true
    → unfinished_from task (drop task finished) ≡ unfinished_from (task + 1) (drop (task + 1) finished)
unfolding unfinished_from
unfinished_from-passed finished task there = ap (unfinished_from task) (drop-at finished task true there)

unfinished_from-found : (finished : List Bool) (task : ℕ) → slice_get finished task ≡ Some false
    → unfinished_from task (drop task finished) ≡ task ∷ unfinished_from (task + 1) (drop (task + 1) finished)
unfolding unfinished_from
unfinished_from-found finished task there = ap (unfinished_from task) (drop-at finished task false there)

after_first : (xs : List ℕ) (x left : ℕ) → 0 < left → slice_get (x ∷ xs) left ≡ slice_get xs (left - 1)
after_first xs x zero some = absurd (omega (arith, some))
after_first xs x (suc left) some = let same : left ≡ suc left - 1 = omega arith in ap (slice_get xs) same

-- one task is looked at
module _ (items : List Task) (task : ℕ) (item : Task) (inside : task < length items) (read : item ≡ get_or items task item) (left n : ℕ)
    (sought : slice_get (unfinished_from task (drop task (finished_of (map task_frames items)))) left ≡ slice_get (unfinished_of (finished_of (map task_frames items))) n)
  where
    bit : slice_get (finished_of (map task_frames items)) task ≡ Some (is_finished (task_frames item))
    bit = finished_of-at (map task_frames items) task (task_frames item) (frames-read items task item inside read)

    pub passed : is_finished (task_frames item) ≡ true
        → slice_get (unfinished_from (task + 1) (drop (task + 1) (finished_of (map task_frames items)))) left ≡ slice_get (unfinished_of (finished_of (map task_frames items))) n
    passed is =
        ap (λ (tasks : List ℕ). slice_get tasks left) (sym (unfinished_from-passed (finished_of (map task_frames items)) task (bit ∙ ap Some is))) ∙ sought

    pub found : is_finished (task_frames item) ≡ false → left ≡ 0 → slice_get (unfinished_of (finished_of (map task_frames items))) n ≡ Some task
    found is none =
        sym sought ∙ ap (λ (tasks : List ℕ). slice_get tasks left) (unfinished_from-found (finished_of (map task_frames items)) task (bit ∙ ap Some is))
        ∙ ap (λ (k : ℕ). slice_get (task ∷ unfinished_from (task + 1) (drop (task + 1) (finished_of (map task_frames items)))) k) none

    pub counted : is_finished (task_frames item) ≡ false → 0 < left
        → slice_get (unfinished_from (task + 1) (drop (task + 1) (finished_of (map task_frames items)))) (left - 1) ≡ slice_get (unfinished_of (finished_of (map task_frames items))) n
    counted is some =
        sym (after_first (unfinished_from (task + 1) (drop (task + 1) (finished_of (map task_frames items)))) task left some)
        ∙ ap (λ (tasks : List ℕ). slice_get tasks left) (sym (unfinished_from-found (finished_of (map task_frames items)) task (bit ∙ ap Some is))) ∙ sought

-- no task is left to look at
pub all_passed : (finished : List Bool) (task left n : ℕ) → length finished ≤ task → slice_get (unfinished_from task (drop task finished)) left ≡ slice_get (unfinished_of finished) n
    → n < length (unfinished_of finished) → ⊥
unfolding unfinished_from
all_passed finished task left n past sought some =
    let none : slice_get (unfinished_from task []) left ≡ slice_get (unfinished_of finished) n =
    ap (λ (bits : List Bool). slice_get (unfinished_from task bits) left) (sym (drop_all task finished past)) ∙ sought in
    let there = slice_get-get_or (unfinished_of finished) n 0 some in
    cc
