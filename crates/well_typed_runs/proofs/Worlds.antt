-- A step of the run leads from a state that is as it should be to another, and so does the run.
use Rattle.std.proofs.Common.{◌≡◌, ◌⊎◌, inl, inr, ℕ, zero, suc, ◌%◌, ◌<◌, List, [], ◌∷◌, ◌++◌, length, slice_get, slice_set, slice_index, Option, Some, None, option_map, false, refl, sym, ◌∙◌, ap, subst, arith}
use Rattle.std.proofs.Math.Nat.{mod-lt}
use Rattle.std.proofs.lemmas.Bool.{cases_eq}
use Rattle.std.proofs.lemmas.List.{length-set}
use Rattle.hw_tags.specs.TaskRuns.{Goes, Stays, Starts, Finishes, Ends, Stuck, Next, Last, NoStep, Spent, Ended, IsStuck, finished_of, unfinished, seen, kept, with_started, lifted, task_step, counted, next_task, world_step, after_report, after_step, run_from}
use Rattle.hw_tags.proofs.UnfinishedTasks.{unfinished_of-each, unfinished_of-only}
use Rattle.ir_core.specs.declared.ir_module.Module.{Module}
use Rattle.ir_meaning.specs.Births.{Birth}
use Rattle.ir_meaning.specs.BirthChanges.{OnlyGrow}
use Rattle.ir_meaning.specs.Runs.{step_under, source_world_step, source_run_from}
use Rattle.ir_meaning.specs.State.{SourceFrame, SourceSeen, SourceOutcome, SourceReport, SourceShared, SourceWorld, SourceWorldStep, SourceRun, nothing_happened}
use Rattle.well_typed_runs.specs.GoodFrames.{IsGoodFrame, IsGoodTask, AreGoodCallers}
use Rattle.well_typed_runs.specs.GoodWorlds.{IsAccepted, IsGoodSeen, IsGoodAfter, IsGoodOutcome, IsGoodWorld, AreSmall, IsWithoutCalloc}
use Rattle.well_typed_runs.proofs.EachStep.{step_good}
use Rattle.well_typed_runs.proofs.Registers.{get-set_here, get-set_other}
use Rattle.well_typed_runs.proofs.Settings.{task-grows}
use Rattle.well_typed_runs.specs.Typed.{AreTyped, FramesAreTyped, TasksAreTyped}
use Rattle.well_typed_runs.specs.KnownValues.{IsOfType}
use Rattle.ir_core.specs.declared.ir_module.Function.{Function}
use Rattle.ir_core.specs.NumberTypes.{type_of}

-- ---- the task that makes a step

-- task 0 isn't finished
first_frames : (m : Module) (w : SourceWorld) → IsGoodWorld m w → slice_get (finished_of w.tasks) 0 ≡ Some false
first_frames m w good = by_tasks w.tasks (λ frames e. good.tasks 0 frames e) good.first
  where
    by_tasks : (tasks : List (List SourceFrame)) → ((frames : List SourceFrame) → slice_get tasks 0 ≡ Some frames → IsGoodTask m w.shared.births 0 frames) → 0 < length tasks
        → slice_get (finished_of tasks) 0 ≡ Some false
    by_tasks [] h k = absurd (omega arith)
    by_tasks ([] ∷ tasks) h k = absurd (h [] refl refl)
    by_tasks ((frame ∷ callers) ∷ tasks) h k = refl

item_below : {A : Type 0} (xs : List A) (i : ℕ) (x : A) → slice_get xs i ≡ Some x → i < length xs
item_below [] i x e = absurd cc
item_below (y ∷ xs) zero x e = omega arith
item_below (y ∷ xs) (suc i) x e = let k = item_below xs i x e in omega arith

item_at : (xs : List ℕ) (i : ℕ) → i < length xs → slice_get xs i ≡ Some (slice_index xs i)
item_at [] i h = absurd (omega arith)
item_at (x ∷ xs) zero h = refl
item_at (x ∷ xs) (suc i) h = item_at xs i (omega arith)

-- a frame of the task that makes the next step
record HasFrame (w : SourceWorld) (k : ℕ) : Type 0 where
  frame : SourceFrame
  callers : List SourceFrame
  there : slice_get w.tasks k ≡ Some (frame ∷ callers)

has_frame : (tasks : List (List SourceFrame)) (k : ℕ) → slice_get (finished_of tasks) k ≡ Some false → (frame : SourceFrame) × (callers : List SourceFrame) × (slice_get tasks k ≡ Some (frame ∷ callers))
has_frame [] k e = absurd cc
has_frame ([] ∷ tasks) zero e = absurd cc
has_frame ((frame ∷ callers) ∷ tasks) zero e = (frame, callers, refl)
has_frame (frames ∷ tasks) (suc k) e = has_frame tasks k e

next_has : (m : Module) (turns : ℕ → ℕ) (w : SourceWorld) → IsGoodWorld m w → HasFrame w (next_task turns w)
next_has m turns w good =
    let (i, there) = unfinished_of-each (finished_of w.tasks) 0 (first_frames m w good) in
    let some = item_below (unfinished w) i 0 there in
    let place : turns w.turns % length (unfinished w) < length (unfinished w) = mod-lt (turns w.turns) (omega arith) in
    let chosen = item_at (unfinished w) (turns w.turns % length (unfinished w)) place in
    let open_one = unfinished_of-only (finished_of w.tasks) (next_task turns w) (turns w.turns % length (unfinished w)) chosen in
    let (frame, callers, found) = has_frame w.tasks (next_task turns w) open_one in
    record { frame = frame; callers = callers; there = found }

-- ---- the next state

-- the tasks of a state, with other frames of one of them
tasks_after : (m : Module) (before after : List Birth) (tasks : List (List SourceFrame)) (k : ℕ) (stack : List SourceFrame) → OnlyGrow before after
    → ((j : ℕ) (frames : List SourceFrame) → slice_get tasks j ≡ Some frames → IsGoodTask m before j frames) → IsGoodTask m after k stack
    → (j : ℕ) (frames : List SourceFrame) → slice_get (slice_set tasks k stack) j ≡ Some frames → IsGoodTask m after j frames
tasks_after m before after tasks k stack grow old new j frames e =
    elim (cases_eq j k) [
      | inl same ↦
          let here : slice_get (slice_set tasks k stack) k ≡ Some frames = subst (λ (i : ℕ). slice_get (slice_set tasks k stack) i ≡ Some frames) same e in
          subst (λ (i : ℕ). IsGoodTask m after i frames) (sym same) (was_set (slice_get tasks k) (sym (get-set_here tasks k stack) ∙ here))
      | inr other ↦ task-grows m before after j frames grow (old j frames (sym (get-set_other tasks k j stack other) ∙ e))
    ]
  where
    was_set : (found : Option (List SourceFrame)) → option_map (λ _old. stack) found ≡ Some frames → IsGoodTask m after k frames
    was_set None h = absurd cc
    was_set (Some x) h = let is : stack ≡ frames = cc in subst (λ (fs : List SourceFrame). IsGoodTask m after k fs) is new

kept_good : (m : Module) (w : SourceWorld) (k : ℕ) (shared : SourceShared) (stack : List SourceFrame) → IsGoodWorld m w → IsGoodAfter m w.shared.births shared.births k stack
    → IsGoodWorld m (kept w k shared stack)
kept_good m w k shared stack good after =
    let first = good.first in
    let same = length-set w.tasks k stack in
    record {
      births = after.births;
      tasks = tasks_after m w.shared.births shared.births w.tasks k stack after.grow good.tasks after.frames;
      first = omega arith;
    }

-- one more task
started_good : (m : Module) (w : SourceWorld) (frame : SourceFrame) → IsGoodWorld m w → IsGoodFrame m w.shared.births frame → IsGoodWorld m (with_started w frame)
started_good m w frame good new =
    record {
      births = good.births;
      tasks = λ j frames e. elim (pushed w.tasks j frames e) [
        | inl old ↦ good.tasks j frames old
        | inr (at, is) ↦
            let first = good.first in
            subst (λ (fs : List SourceFrame). IsGoodTask m w.shared.births j fs) (sym is) (new, λ zero_task. absurd (later j (length w.tasks) at first zero_task))
      ];
      first = longer w.tasks good.first;
    }
  where
    pushed : (tasks : List (List SourceFrame)) (j : ℕ) (frames : List SourceFrame) → slice_get (tasks ++ (frame ∷ []) ∷ []) j ≡ Some frames
        → (slice_get tasks j ≡ Some frames) ⊎ ((j ≡ length tasks) × (frames ≡ frame ∷ []))
    pushed [] zero frames e = inr (refl, cc)
    pushed [] (suc j) frames e = absurd cc
    pushed (x ∷ tasks) zero frames e = inl e
    pushed (x ∷ tasks) (suc j) frames e = elim (pushed tasks j frames e) [ inl old ↦ inl old | inr (at, is) ↦ inr (ap (λ k. suc k) at, is) ]

    later : (j n : ℕ) → j ≡ n → 0 < n → j ≡ 0 → ⊥
    later j n e h z = omega arith

    longer : (tasks : List (List SourceFrame)) → 0 < length tasks → 0 < length (tasks ++ (frame ∷ []) ∷ [])
    longer [] h = omega arith
    longer (x ∷ tasks) h = omega arith

-- ---- the last state

frame_typed : (m : Module) (births : List Birth) (frame : SourceFrame) → IsGoodFrame m births frame → AreTyped m frame
frame_typed m births frame good f r value there e =
    let good_there = good.there in
    let same : good.f ≡ f = cc in
    subst (λ (g : Function). IsOfType (type_of m (slice_index g.regs r)) value) same (good.registers.typed r value e)

callers_typed : (m : Module) (births : List Birth) (task func : ℕ) (callers : List SourceFrame) → AreGoodCallers m births task func callers → FramesAreTyped m callers
callers_typed m births task func [] good depth frame e = absurd cc
callers_typed m births task func (caller ∷ callers) good zero frame e =
    let same : caller ≡ frame = cc in subst (AreTyped m) same (frame_typed m births caller good.0.frame)
callers_typed m births task func (caller ∷ callers) good (suc depth) frame e = callers_typed m births task caller.func callers good.1 depth frame e

pub frames_typed : (m : Module) (births : List Birth) (task : ℕ) (frames : List SourceFrame) → IsGoodTask m births task frames → FramesAreTyped m frames
frames_typed m births task [] good depth frame e = absurd cc
frames_typed m births task (first ∷ callers) good zero frame e = let same : first ≡ frame = cc in subst (AreTyped m) same (frame_typed m births first good.0)
frames_typed m births task (first ∷ callers) good (suc depth) frame e = callers_typed m births task first.func callers good.1 depth frame e

no_frames : (m : Module) → FramesAreTyped m []
no_frames m depth frame e = absurd cc

pub tasks_typed : (m : Module) (w : SourceWorld) → IsGoodWorld m w → TasksAreTyped m w
tasks_typed m w good task frames at = frames_typed m w.shared.births task frames (good.tasks task frames at)

-- a state with other frames of one task
kept_typed : (m : Module) (w : SourceWorld) (k : ℕ) (shared : SourceShared) (stack : List SourceFrame) → IsGoodWorld m w → FramesAreTyped m stack → TasksAreTyped m (kept w k shared stack)
kept_typed m w k shared stack good typed task frames at =
    elim (cases_eq task k) [
      | inl same ↦
          let here : slice_get (slice_set w.tasks k stack) k ≡ Some frames = subst (λ (i : ℕ). slice_get (slice_set w.tasks k stack) i ≡ Some frames) same at in
          was_set (slice_get w.tasks k) (sym (get-set_here w.tasks k stack) ∙ here)
      | inr other ↦ tasks_typed m w good task frames (sym (get-set_other w.tasks k task stack other) ∙ at)
    ]
  where
    was_set : (found : Option (List SourceFrame)) → option_map (λ _old. stack) found ≡ Some frames → FramesAreTyped m frames
    was_set None h = absurd cc
    was_set (Some x) h = let is : stack ≡ frames = cc in subst (λ (fs : List SourceFrame). FramesAreTyped m fs) is typed

-- the next state of a step is as it should be, and there is one if the run doesn't end
abbrev pub IsGoodWorldStep : Module → SourceWorldStep → Type 0
IsGoodWorldStep m (Next w report) = IsGoodWorld m w
IsGoodWorldStep m (Last w report ending) = TasksAreTyped m w
IsGoodWorldStep m NoStep = ⊥

lifted_good : (m : Module) (w : SourceWorld) (k : ℕ) (frame : SourceFrame) (callers : List SourceFrame) (outcome : SourceOutcome) → IsGoodWorld m w
    → IsGoodTask m w.shared.births k (frame ∷ callers)
    → IsGoodOutcome m (seen w k frame callers) outcome → IsGoodWorldStep m (lifted w k nothing_happened outcome)
lifted_good m w k frame callers (Goes t report) good stack h = kept_good m w k t.shared (t.frame ∷ t.callers) good h
lifted_good m w k frame callers Stays good stack h = good
lifted_good m w k frame callers (Starts t report new) good stack h =
    started_good m (kept w k t.shared (t.frame ∷ t.callers)) new (kept_good m w k t.shared (t.frame ∷ t.callers) good h.0) h.1
lifted_good m w k frame callers (Finishes shared report) good stack h = kept_good m w k shared [] good h
lifted_good m w k frame callers (Ends shared frames report ending) good stack h =
    kept_typed m w k shared frames good (elim h [
      | inl stay ↦ subst (λ (fs : List SourceFrame). FramesAreTyped m fs) (sym stay) (frames_typed m w.shared.births k (frame ∷ callers) stack)
      | inr gone ↦ subst (λ (fs : List SourceFrame). FramesAreTyped m fs) (sym gone) (no_frames m)
    ])
lifted_good m w k frame callers Stuck good stack h = absurd h

pub world_good : (m : Module) (input : List ℕ) (turns : ℕ → ℕ) (w : SourceWorld) → IsAccepted m → IsGoodWorld m w → AreSmall w.shared.births
    → IsGoodWorldStep m (source_world_step m input turns w)
unfolding world_step
world_good m input turns w accepted good small =
    let k : ℕ = next_task turns w in
    let has = next_has m turns w good in
    let at_work : IsGoodWorld m (counted w) = record { births = good.births; tasks = good.tasks; first = good.first } in
    let stack = good.tasks k (has.frame ∷ has.callers) has.there in
    let s : SourceSeen = seen (counted w) k has.frame has.callers in
    let seen_good : IsGoodSeen m s = record { births = good.births; frame = stack.0; callers = stack.1 } in
    subst (λ (o : Option (List SourceFrame)). IsGoodWorldStep m (task_step (step_under m input) nothing_happened (counted w) k o)) (sym has.there)
    (lifted_good m (counted w) k has.frame has.callers (step_under m input s) at_work stack (step_good m _ s accepted seen_good small))

-- without `calloc` a step keeps objects small
abbrev pub KeepsSmall : Module → SourceWorld → SourceWorldStep → Type 0
KeepsSmall m w (Next v report) = IsWithoutCalloc m → AreSmall w.shared.births → AreSmall v.shared.births
KeepsSmall m w (Last v report ending) = Unit {0}
KeepsSmall m w NoStep = Unit {0}

lifted_small : (m : Module) (w : SourceWorld) (k : ℕ) (frame : SourceFrame) (callers : List SourceFrame) (outcome : SourceOutcome)
    → IsGoodOutcome m (seen w k frame callers) outcome → KeepsSmall m w (lifted w k nothing_happened outcome)
lifted_small m w k frame callers (Goes t report) h = h.small
lifted_small m w k frame callers Stays h = λ without small. small
lifted_small m w k frame callers (Starts t report new) h = h.0.small
lifted_small m w k frame callers (Finishes shared report) h = h.small
lifted_small m w k frame callers (Ends shared frames report ending) h = tt
lifted_small m w k frame callers Stuck h = tt

pub world_small : (m : Module) (input : List ℕ) (turns : ℕ → ℕ) (w : SourceWorld) → IsAccepted m → IsGoodWorld m w → AreSmall w.shared.births
    → KeepsSmall m w (source_world_step m input turns w)
unfolding world_step
world_small m input turns w accepted good small =
    let k : ℕ = next_task turns w in
    let has = next_has m turns w good in
    let stack = good.tasks k (has.frame ∷ has.callers) has.there in
    let s : SourceSeen = seen (counted w) k has.frame has.callers in
    let seen_good : IsGoodSeen m s = record { births = good.births; frame = stack.0; callers = stack.1 } in
    subst (λ (o : Option (List SourceFrame)). KeepsSmall m w (task_step (step_under m input) nothing_happened (counted w) k o)) (sym has.there)
    (counted_small m w (lifted (counted w) k nothing_happened (step_under m input s))
    (lifted_small m (counted w) k has.frame has.callers (step_under m input s) (step_good m _ s accepted seen_good small)))
  where
    counted_small : (m : Module) (w : SourceWorld) (step : SourceWorldStep) → KeepsSmall m (counted w) step → KeepsSmall m w step
    counted_small m w (Next v report) h = h
    counted_small m w (Last v report ending) h = tt
    counted_small m w NoStep h = tt

-- ---- the run

-- each state that a run comes to from another one has only objects of fewer than 2^64 bytes, before each of so many steps
abbrev pub StaysSmallFrom : Module → (input : List ℕ) → (turns : ℕ → ℕ) → (bound : ℕ) → SourceWorld → Type 0
StaysSmallFrom m input turns bound w =
    (n : ℕ) (v : SourceWorld) (reports : List SourceReport) → n < bound → source_run_from m input turns n w ≡ Spent v reports → AreSmall v.shared.births

-- a run isn't stuck, its last state is as it should be if the bound ended it, and else its registers are
abbrev pub IsGoodRun : Module → SourceRun → Type 0
IsGoodRun m (Spent w reports) = IsGoodWorld m w
IsGoodRun m (Ended w reports ending) = TasksAreTyped m w
IsGoodRun m IsStuck = ⊥

reported : (m : Module) (report : SourceReport) (run : SourceRun) → IsGoodRun m run → IsGoodRun m (after_report report run)
reported m report (Spent w reports) h = h
reported m report (Ended w reports ending) h = h
reported m report IsStuck h = h

pub after_good : (m : Module) (go : SourceWorld → SourceRun) (step : SourceWorldStep) → IsGoodWorldStep m step
    → ((w : SourceWorld) (report : SourceReport) → step ≡ Next w report → IsGoodWorld m w → IsGoodRun m (go w)) → IsGoodRun m (after_step go step)
after_good m go (Next w report) h k = reported m report (go w) (k w report refl h)
after_good m go (Last w report ending) h k = h
after_good m go NoStep h k = absurd h

pub run_good : (m : Module) (input : List ℕ) (turns : ℕ → ℕ) (bound : ℕ) (w : SourceWorld) → IsAccepted m → IsGoodWorld m w → StaysSmallFrom m input turns bound w
    → IsGoodRun m (source_run_from m input turns bound w)
unfolding run_from
run_good m input turns zero w accepted good small = good
run_good m input turns (suc bound) w accepted good small =
    after_good m (source_run_from m input turns bound) (source_world_step m input turns w) (world_good m input turns w accepted good (small 0 w [] (omega arith) refl))
    (λ v report is next_good. run_good m input turns bound v accepted next_good (λ n u reports below e.
    small (suc n) u (report ∷ reports) (omega arith)
    (ap (λ (step : SourceWorldStep). after_step (source_run_from m input turns n) step) is ∙ ap (λ (run : SourceRun). after_report report run) e)))

-- ---- the run of a module without `calloc`

abbrev pub IsSmallRun : Module → SourceRun → Type 0
IsSmallRun m (Spent w reports) = IsGoodWorld m w × AreSmall w.shared.births
IsSmallRun m (Ended w reports ending) = Unit {0}
IsSmallRun m IsStuck = ⊥

small_reported : (m : Module) (report : SourceReport) (run : SourceRun) → IsSmallRun m run → IsSmallRun m (after_report report run)
small_reported m report (Spent w reports) h = h
small_reported m report (Ended w reports ending) h = h
small_reported m report IsStuck h = h

pub small_after : (m : Module) (go : SourceWorld → SourceRun) (step : SourceWorldStep) → IsGoodWorldStep m step
    → ((w : SourceWorld) (report : SourceReport) → step ≡ Next w report → IsGoodWorld m w → IsSmallRun m (go w)) → IsSmallRun m (after_step go step)
small_after m go (Next w report) h k = small_reported m report (go w) (k w report refl h)
small_after m go (Last w report ending) h k = tt
small_after m go NoStep h k = absurd h

pub small_run : (m : Module) (input : List ℕ) (turns : ℕ → ℕ) (bound : ℕ) (w : SourceWorld) → IsAccepted m → IsWithoutCalloc m → IsGoodWorld m w → AreSmall w.shared.births
    → IsSmallRun m (source_run_from m input turns bound w)
unfolding run_from
small_run m input turns zero w accepted without good small = (good, small)
small_run m input turns (suc bound) w accepted without good small =
    small_after m (source_run_from m input turns bound) (source_world_step m input turns w) (world_good m input turns w accepted good small)
    (λ v report is next_good.
    small_run m input turns bound v accepted without next_good
    (subst (λ (step : SourceWorldStep). KeepsSmall m w step) is (world_small m input turns w accepted good small) without small))
