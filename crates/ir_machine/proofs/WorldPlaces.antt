-- The steps of a run keep the places of frames, and none is stuck.
use Rattle.std.proofs.Common.{◌≡◌, ◌≢◌, ℕ, zero, suc, ◌%◌, ◌<◌, true, false, List, [], ◌∷◌, ◌++◌, length, Option, Some, None, refl, sym, ◌∙◌, ap, subst, inl, inr, arith}
use Rattle.std.specs.Prelude.{slice_get, slice_set, option_map, Result, Ok, Err}
use Rattle.std.proofs.lemmas.Bool.{cases_eq}
use Rattle.std.proofs.lemmas.Option.{slice_get_within, slice_get-get_or, slice_get-map}
use Rattle.std.proofs.Math.Nat.{mod-lt}
use Rattle.hw_base.specs.declared.endings.Full.{Full}
use Rattle.hw_tags.specs.InputState.{next_input}
use Rattle.hw_tags.specs.TaskRuns.{Goes, Stays, Starts, Finishes, Ends, Stuck, Next, Last, NoStep, Spent, Ended, IsStuck, is_finished, finished_of, seen, lifted, task_step, counted, next_task, world_step, after_report, after_step, run_from}
use Rattle.hw_tags.specs.Turn.{unfinished_of}
use Rattle.hw_tags.proofs.UnfinishedTasks.{unfinished_of-each, unfinished_of-only}
use Rattle.tbi_memory.proofs.ListLemmas.{slice_get-set_at, slice_get-set_other}
use Rattle.ir_core.specs.declared.ir_module.Function.{Function}
use Rattle.ir_core.specs.declared.ir_module.Module.{Module}
use Rattle.ir_core.specs.Runnable.{IsRunnable}
use Rattle.mi_code.specs.declared.code_functions.CodeFunction.{CodeFunction}
use Rattle.mi_code.specs.TagChecks.{enter_code}
use Rattle.mi_code.specs.Instrumentation.{code_of_function, instrumented}
use Rattle.ir_tasks.specs.Frames.{Frame}
use Rattle.ir_machine.specs.State.{MachineSetting, MachineSeen, MachineOutcome, MachineReport, MachineWorld, MachineWorldStep, MachineRun}
use Rattle.ir_machine.specs.ReachableWorlds.{IsAtInstruction, AreFrames, HasPlaces}
use Rattle.ir_machine.specs.CallSteps.{AfterEntry, entry_of, frame_for}
use Rattle.ir_machine.specs.Runs.{machine_run, step_in}
use Rattle.ir_machine.specs.Start.{shared_at_start, main_entered, main_started, machine_start}
use Rattle.ir_machine.proofs.BlockPlaces.{entry-at}
use Rattle.ir_machine.proofs.CodeAt.{get-below, instrumented-get}
use Rattle.ir_machine.proofs.EntryPlaces.{EntersAt, enters-at}
use Rattle.ir_machine.proofs.KeptPlaces.{KeepsPlaces, IsLater}
use Rattle.ir_machine.proofs.OwnSteps.{resolved-at, runnable-at}
use Rattle.ir_machine.proofs.WholeSteps.{step-kept}

-- ---- which task makes a step

-- a task that isn't finished has a frame
unfinished-frames : (o : Option (List Frame)) → option_map is_finished o ≡ Some false → (frame : Frame) × (callers : List Frame) × (o ≡ Some (frame ∷ callers))
unfinished-frames None h = absurd (cc)
unfinished-frames (Some []) h = absurd (let e : true ≡ false = cc in cc)
unfinished-frames (Some (frame ∷ callers)) h = (frame, callers, refl)

finished-get : (tasks : List (List Frame)) (k : ℕ) → slice_get (finished_of tasks) k ≡ option_map is_finished (slice_get tasks k)
finished-get tasks k = slice_get-map is_finished tasks k

-- the chosen task has a frame, if the first one has
chosen-frames : (turns : ℕ → ℕ) (w : MachineWorld) → ((frame : Frame) × (callers : List Frame) × (slice_get w.tasks 0 ≡ Some (frame ∷ callers))) → (frame : Frame) × (callers : List Frame) × (slice_get w.tasks (next_task turns w) ≡ Some (frame ∷ callers))
chosen-frames turns w (frame, callers, there) =
    let list = unfinished_of (finished_of w.tasks) in
    let going : slice_get (finished_of w.tasks) 0 ≡ Some false = finished-get w.tasks 0 ∙ ap (option_map is_finished) there in
    let (i, listed) = unfinished_of-each (finished_of w.tasks) 0 going in
    let some : i < length list = slice_get_within list i 0 listed in
    let place = turns w.turns % length list in
    let inside : place < length list = mod-lt (turns w.turns) (omega (arith, some)) in
    let open_ = unfinished_of-only (finished_of w.tasks) (next_task turns w) place (slice_get-get_or list place 0 inside) in
    unfinished-frames (slice_get w.tasks (next_task turns w)) (sym (finished-get w.tasks (next_task turns w)) ∙ open_)

-- ---- what a step leaves

-- the state after a step has its frames at their places, and there is one
abbrev pub StepHasPlaces : Module → MachineWorldStep → Type 0
StepHasPlaces m (Next w report) = HasPlaces m w
StepHasPlaces m (Last w report ending) = Unit {0}
StepHasPlaces m NoStep = ⊥

-- one task's frames are changed
set-there : (o : Option (List Frame)) (new frames : List Frame) → option_map (λ _old. new) o ≡ Some frames → new ≡ frames
set-there None new frames h = absurd (cc)
set-there (Some old) new frames h = cc

frames-set : (m : Module) (tasks : List (List Frame)) (k j : ℕ) (new frames : List Frame) → ((i : ℕ) (frames : List Frame) → slice_get tasks i ≡ Some frames → AreFrames m frames) → AreFrames m new → slice_get (slice_set tasks k new) j ≡ Some frames → AreFrames m frames
frames-set m tasks k j new frames all fresh h =
    elim (cases_eq j k) [
      | inl same ↦
          let at : slice_get (slice_set tasks k new) k ≡ Some frames = subst (λ (n : ℕ). slice_get (slice_set tasks k new) n ≡ Some frames) same h in
          subst (AreFrames m) (set-there (slice_get tasks k) new frames (sym (slice_get-set_at tasks k new) ∙ at)) fresh
      | inr other ↦ all j frames (sym (slice_get-set_other tasks k j new other) ∙ h)
    ]

-- the first task has a frame
abbrev FirstOf : List (List Frame) → Type 0
FirstOf tasks = (frame : Frame) × (callers : List Frame) × (slice_get tasks 0 ≡ Some (frame ∷ callers))

first-set : (tasks : List (List Frame)) (k : ℕ) (frame : Frame) (callers : List Frame) → FirstOf tasks → FirstOf (slice_set tasks k (frame ∷ callers))
first-set [] k frame callers (first, others, there) = absurd (cc)
first-set (task ∷ tasks) zero frame callers first = (frame, callers, refl)
first-set (task ∷ tasks) (suc k) frame callers first = first

first-later : (tasks : List (List Frame)) (k : ℕ) (new : List Frame) → IsLater k → FirstOf tasks → FirstOf (slice_set tasks k new)
first-later [] k new later (first, others, there) = absurd (cc)
first-later (task ∷ tasks) zero new later first = absurd later
first-later (task ∷ tasks) (suc k) new later first = first

first-more : (tasks : List (List Frame)) (more : List (List Frame)) → FirstOf tasks → FirstOf (tasks ++ more)
first-more [] more (first, others, there) = absurd (cc)
first-more (task ∷ tasks) more first = first

-- one more task
frames-more : (m : Module) (tasks : List (List Frame)) (frame : Frame) → IsAtInstruction m frame → ((i : ℕ) (frames : List Frame) → slice_get tasks i ≡ Some frames → AreFrames m frames) → (j : ℕ) (frames : List Frame) → slice_get (tasks ++ (frame ∷ []) ∷ []) j ≡ Some frames → AreFrames m frames
frames-more m [] frame at all zero frames h = let e : frame ∷ [] ≡ frames = cc in subst (AreFrames m) e (at, tt)
frames-more m [] frame at all (suc j) frames h = absurd (cc)
frames-more m (task ∷ tasks) frame at all zero frames h = all 0 frames h
frames-more m (task ∷ tasks) frame at all (suc j) frames h = frames-more m tasks frame at (λ (i : ℕ) (others : List Frame) (there : slice_get tasks i ≡ Some others). all (suc i) others there) j frames h

lifted-places : (m : Module) (w : MachineWorld) (k : ℕ) (outcome : MachineOutcome) → HasPlaces m w → KeepsPlaces m k outcome → StepHasPlaces m (lifted w k [] outcome)
lifted-places m w k (Goes s report) places h =
    record {
      frames = λ (j : ℕ) (frames : List Frame) (there : slice_get (slice_set w.tasks k (s.frame ∷ s.callers)) j ≡ Some frames). frames-set m w.tasks k j (s.frame ∷ s.callers) frames places.frames h there;
      first = first-set w.tasks k s.frame s.callers places.first;
    }
lifted-places m w k Stays places h = places
lifted-places m w k (Starts s report frame) places h =
    let tasks = slice_set w.tasks k (s.frame ∷ s.callers) in
    record {
      frames = frames-more m tasks frame h.1 (λ (j : ℕ) (frames : List Frame) (there : slice_get tasks j ≡ Some frames). frames-set m w.tasks k j (s.frame ∷ s.callers) frames places.frames h.0 there);
      first = first-more tasks ((frame ∷ []) ∷ []) (first-set w.tasks k s.frame s.callers places.first);
    }
lifted-places m w k (Finishes shared report) places h =
    record {
      frames = λ (j : ℕ) (frames : List Frame) (there : slice_get (slice_set w.tasks k []) j ≡ Some frames). frames-set m w.tasks k j [] frames places.frames tt there;
      first = first-later w.tasks k [] h places.first;
    }
lifted-places m w k (Ends shared frames report ending) places h = tt
lifted-places m w k Stuck places h = h

module _ (m : Module) (runnable : IsRunnable m) (setting : MachineSetting) (code : setting.code ≡ instrumented m) where
  -- the step of a task with a frame
  frames-places : (w : MachineWorld) (k : ℕ) (frame : Frame) (callers : List Frame) → HasPlaces m w → slice_get w.tasks k ≡ Some (frame ∷ callers) → StepHasPlaces m (task_step (step_in setting) [] w k (slice_get w.tasks k))
  frames-places w k frame callers places there =
      let at = places.frames k (frame ∷ callers) there in
      let s : MachineSeen = seen w k frame callers in
      subst (λ (o : Option (List Frame)). StepHasPlaces m (task_step (step_in setting) [] w k o)) (sym there)
      (lifted-places m w k (step_in setting s) places
      (step-kept m runnable setting code k (next_input setting.input w.shared.input) s at.0 at.1 refl))

  pub world-places : (turns : ℕ → ℕ) (w : MachineWorld) → HasPlaces m w → StepHasPlaces m (world_step (step_in setting) [] turns w)
  unfolding world_step
  world-places turns w places =
      let (frame, callers, there) = chosen-frames turns w places.first in
      frames-places (counted w) (next_task turns w) frame callers (record { frames = places.frames; first = places.first }) there

  -- ---- the start

  entered-places : (f : Function) → slice_get m.functions setting.program.main ≡ Some f → (r : Result AfterEntry Full) → EntersAt (length (enter_code f.allocas)) r → StepHasPlaces m (main_entered setting r)
  entered-places f there (Err full) h = tt
  entered-places f there (Ok after) h =
      let frame = frame_for setting.code setting.program.main after.place [] 0 in
      let at : IsAtInstruction m frame = entry-at m f (resolved-at m runnable setting.program.main f there) (runnable-at m runnable setting.program.main f there) frame there h in
      record {
        frames = frames-more m [] frame at (λ (i : ℕ) (frames : List Frame) (none : slice_get {X = List Frame} [] i ≡ Some frames). absurd (cc));
        first = (frame, [], refl);
      }

  pub start-places : setting.program ≡ m → StepHasPlaces m (machine_start setting)
  unfolding machine_start
  start-places same =
      let number : setting.program.main ≡ m.main = ap (λ (p : Module). p.main) same in
      let (f, found) = get-below m.functions m.main runnable.resolved.main_there in
      let there : slice_get m.functions setting.program.main ≡ Some f = ap (slice_get m.functions) number ∙ found in
      let main_code : slice_get setting.code setting.program.main ≡ Some (code_of_function m setting.program.main f) = ap (λ (c : List CodeFunction). slice_get c setting.program.main) code ∙ instrumented-get m setting.program.main f there in
      subst (λ (o : Option CodeFunction). StepHasPlaces m (main_started setting o)) (sym main_code)
      (entered-places f there (entry_of setting 0 setting.program.main 0 (shared_at_start setting))
      (enters-at setting m code 0 setting.program.main 0 (shared_at_start setting) f there))

  -- ---- runs

  abbrev IsNotStuck : MachineRun → Type 0
  IsNotStuck (Spent w reports) = Unit {0}
  IsNotStuck (Ended w reports ending) = Unit {0}
  IsNotStuck IsStuck = ⊥

  report-not_stuck : (report : MachineReport) (run : MachineRun) → IsNotStuck run → IsNotStuck (after_report report run)
  report-not_stuck report (Spent w reports) h = tt
  report-not_stuck report (Ended w reports ending) h = tt
  report-not_stuck report IsStuck h = h

  step-not_stuck : (go : MachineWorld → MachineRun) (step : MachineWorldStep) → ((w : MachineWorld) → HasPlaces m w → IsNotStuck (go w)) → StepHasPlaces m step → IsNotStuck (after_step go step)
  step-not_stuck go (Next w report) h places = report-not_stuck report (go w) (h w places)
  step-not_stuck go (Last w report ending) h places = tt
  step-not_stuck go NoStep h places = places

  run-not_stuck : (turns : ℕ → ℕ) (bound : ℕ) (w : MachineWorld) → HasPlaces m w → IsNotStuck (run_from (step_in setting) [] turns bound w)
  unfolding run_from
  run-not_stuck turns zero w places = tt
  run-not_stuck turns (suc bound) w places =
      step-not_stuck (run_from (step_in setting) [] turns bound) (world_step (step_in setting) [] turns w)
      (λ (v : MachineWorld) (there : HasPlaces m v). run-not_stuck turns bound v there) (world-places turns w places)

  not_stuck-differs : (run : MachineRun) → IsNotStuck run → run ≢ IsStuck
  not_stuck-differs (Spent w reports) h e = cc
  not_stuck-differs (Ended w reports ending) h e = cc
  not_stuck-differs IsStuck h e = h

  pub machine_run-not_stuck : setting.program ≡ m → (turns : ℕ → ℕ) (bound : ℕ) → machine_run setting turns bound ≢ IsStuck
  unfolding machine_run
  machine_run-not_stuck same turns bound =
      not_stuck-differs (after_step (run_from (step_in setting) [] turns bound) (machine_start setting))
      (step-not_stuck (run_from (step_in setting) [] turns bound) (machine_start setting) (run-not_stuck turns bound) (start-places same))
