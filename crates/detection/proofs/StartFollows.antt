-- The machine follows the start of a run, if what all tasks share before `main` is entered is related; and so the whole run.
use Rattle.std.proofs.Common.{◌≡◌, ℕ, zero, suc, ◌≤◌, List, [], ◌∷◌, ◌++◌, length, replicate, slice_get, slice_set, Option, Some, None, ◌⊎◌, Result, inl, inr, refl, sym, ◌∙◌, ap, subst, arith}
use Rattle.hw_base.specs.declared.endings.Full.{Full}
use Rattle.hw_tags.specs.TaskRuns.{run_from}
use Rattle.ir_core.specs.ResolvedBodies.{IsResolvedFunction}
use Rattle.ir_core.specs.declared.ir_module.Function.{Function}
use Rattle.ir_core.specs.declared.ir_module.GlobalVar.{GlobalVar}
use Rattle.dbg_sites.specs.ChainTable.{chain_within}
use Rattle.ir_machine.proofs.BlockPlaces.{all-at}
use Rattle.ir_machine.proofs.CodeAt.{instrumented-get}
use Rattle.ir_machine.specs.CallSteps as machine
use Rattle.ir_machine.specs.CallSteps.{AfterEntry, code_at, frame_for, with_arguments}
use Rattle.ir_machine.specs.Runs.{step_in, machine_run}
use Rattle.ir_machine.specs.Start.{shared_at_start, first_world, main_entered, main_started, machine_start}
use Rattle.ir_machine.specs.State.{MachineSetting}
use Rattle.ir_meaning.specs.CallSteps as source
use Rattle.ir_meaning.specs.CallSteps.{entry_frame}
use Rattle.ir_meaning.specs.Start.{global_births, global_news, main_arguments, world_with_main, start_with, source_start}
use Rattle.ir_meaning.specs.State.{News, SourceFrame, nothing_happened, telling}
use Rattle.tag_story.specs.Story.{Story, no_story}
use Rattle.tag_story.specs.Telling.{told, all_told}
use Rattle.tag_story.specs.ToldRun.{ToldWorldStep, told_world, start_told, told_start_by, told_start, told_step, told_run}
use Rattle.step_simulation.proofs.EntryRegisters.{IsArgument}
use Rattle.step_simulation.proofs.TaskStarted.{HasEntered, Enters, goes, full, task-entered}
use Rattle.detection.proofs.WorldsFollow.{run-follows, after-step-follows}
use Rattle.detection.specs.FollowingRuns.{FollowsWorldStep, FollowsRun, story_at, told_at_start}
use Rattle.simulation.specs.Parts.{AreEach, AreStarted, IsChain, frames_of_task}
use Rattle.simulation.specs.Relation.{IsSetting, SharedRelated, FrameRelated, OwnsFrames, WorldRelated, story_setting}

-- ---- main's arguments

-- a list of zeros with one more zero
set-zero : (n k : ℕ) → slice_set (replicate {A = ℕ} n 0) k 0 ≡ replicate n 0
set-zero zero k = refl
set-zero (suc n) zero = refl
set-zero (suc n) (suc k) = ap (λ xs. 0 ∷ xs) (set-zero n k)

abbrev main_numbers : (params : ℕ) → List ℕ
main_numbers zero = []
main_numbers (suc params) = 0 ∷ 0 ∷ []

zeros-given : (n params : ℕ) → with_arguments (replicate n 0) 0 (main_numbers params) ≡ with_arguments (replicate n 0) 0 []
unfolding with_arguments
zeros-given n zero = refl
zeros-given n (suc params) = ap (λ xs. slice_set xs 2 0) (set-zero n 0) ∙ set-zero n 2

-- ---- the story of the globals

globals-first : (setting : MachineSetting) (globals : List GlobalVar) (later : List News) → all_told (story_setting setting) no_story (global_news setting.program globals ++ later) ≡ all_told (story_setting setting) (story_at setting globals) later
unfolding all_told told
globals-first setting [] later = refl
globals-first setting (g ∷ globals) later = refl

-- ---- the start

module _ (setting : MachineSetting) (is : IsSetting setting) (related : SharedRelated setting (told_at_start setting) (shared_at_start setting)) where
  module _ (f : Function) (there : slice_get setting.program.functions setting.program.main ≡ Some f) where
    abbrev entry : source.Entry
    entry = source.entry_of (global_births setting.program setting.program.globals) setting.program.main 0 [] f.allocas

    few : length (main_arguments f.params) ≤ length f.regs
    few =
        let room = (all-at (IsResolvedFunction setting.program) setting.program.functions setting.program.main f is.runnable.resolved.functions there).registers.parameters in
        elim (is.runnable.resolved.main f there).parameters [
          | inl none ↦ few-by f.params (inl none) room
          | inr two ↦ few-by f.params (inr two.0) room
        ]
      where
        few-by : (params : ℕ) → (params ≡ 0) ⊎ (params ≡ 2) → params ≤ length f.regs → length (main_arguments params) ≤ length f.regs
        few-by zero h room = omega arith
        few-by (suc params) (inl none) room = absurd cc
        few-by (suc params) (inr two) room = omega (arith, two, room)

    each : AreEach (IsArgument (told_at_start setting).story.births) (main_arguments f.params) (main_numbers f.params)
    each = by_params f.params
      where
        by_params : (params : ℕ) → AreEach (IsArgument (told_at_start setting).story.births) (main_arguments params) (main_numbers params)
        by_params zero = tt
        by_params (suc params) = (record { image = refl; known = tt; one = tt }, (record { image = refl; known = tt; one = tt }, tt))

    known : IsChain [] 0 []
    unfolding chain_within
    known = record { there = omega arith; sites = refl }

    started : AreStarted 1 (story_at setting setting.program.globals)
    started = by_globals setting.program.globals
      where
        by_globals : (globals : List GlobalVar) → AreStarted 1 (story_at setting globals)
        by_globals [] = record { freed = λ i x h. absurd cc; ended = λ i x h. absurd cc; frames = λ i x h. absurd cc }
        by_globals (g ∷ globals) = record { freed = λ i x h. absurd cc; ended = λ i x h. absurd cc; frames = λ i x h. absurd cc }

    none : frames_of_task 0 (story_at setting setting.program.globals).frames ≡ []
    none = by_globals setting.program.globals
      where
        by_globals : (globals : List GlobalVar) → frames_of_task 0 (story_at setting globals).frames ≡ []
        by_globals [] = refl
        by_globals (g ∷ globals) = refl

    enters : Enters setting (told_at_start setting) (shared_at_start setting) setting.program.main 0 1 f (main_arguments f.params) (main_numbers f.params) [] 0 entry (all_told (story_setting setting) (story_at setting setting.program.globals) entry.news) (machine.entry_of setting 0 setting.program.main 0 (shared_at_start setting))
    enters =
        task-entered setting (told_at_start setting) (shared_at_start setting) is related setting.program.main 0 1 (omega arith) (let same = is.tasks in omega (arith, same)) (record { rings = refl; stacks = refl })
        started none f there (main_arguments f.params) (main_numbers f.params) few each [] 0 known

    -- both worlds before the first step
    abbrev told_from : Result Story Full → ToldWorldStep
    told_from r = start_told (world_with_main setting.program f entry) (telling (global_news setting.program setting.program.globals ++ entry.news)) r

    worlds-related : (story : Story) (after : AfterEntry)
        → HasEntered setting (told_at_start setting) (shared_at_start setting) 0 1 entry.births story entry.birth (frame_for setting.code setting.program.main after.place (main_numbers f.params) 0) (entry_frame f setting.program.main (main_arguments f.params) entry.birth []) after.shared
        → WorldRelated setting (told_world (world_with_main setting.program f entry) story) (first_world after.shared (frame_for setting.code setting.program.main after.place [] 0 ∷ []))
    worlds-related story after has =
        record {
          shared = has.related;
          tasks = ((subst (λ registers. FrameRelated setting story.births after.shared.chains (entry_frame f setting.program.main (main_arguments f.params) entry.birth []) (record { func = setting.program.main; registers = registers; place = after.place; chain = 0 })) (zeros-given (code_at setting.code setting.program.main).registers f.params) has.frame, tt), tt);
          owned = owned;
          few = let same = is.tasks in omega (arith, same);
          tables = has.tables;
          started = has.started;
          steps = refl;
          turns = refl;
        }
      where
        owned : (task : ℕ) (frames : List SourceFrame) → slice_get ((entry_frame f setting.program.main (main_arguments f.params) entry.birth [] ∷ []) ∷ []) task ≡ Some frames → OwnsFrames task frames story
        owned zero frames h = subst (λ xs. OwnsFrames 0 xs story) (let one : entry_frame f setting.program.main (main_arguments f.params) entry.birth [] ∷ [] ≡ frames = cc in one) has.owned
        owned (suc task) frames h = absurd cc

    start-by : (r : Result Story Full) (q : Result AfterEntry Full) → Enters setting (told_at_start setting) (shared_at_start setting) setting.program.main 0 1 f (main_arguments f.params) (main_numbers f.params) [] 0 entry r q
        → FollowsWorldStep setting (told_from r) (main_entered setting q)
    start-by _ _ (goes story after has) = (first_world after.shared (frame_for setting.code setting.program.main after.place [] 0 ∷ []), refl, worlds-related story after has)
    start-by _ _ (full why) = (first_world (shared_at_start setting) [], refl, refl)

  pub start-follows : FollowsWorldStep setting (told_start (story_setting setting)) (machine_start setting)
  unfolding told_start source_start machine_start
  start-follows = by_main (slice_get setting.program.functions setting.program.main) refl
    where
      by_main : (o : Option Function) → slice_get setting.program.functions setting.program.main ≡ o → FollowsWorldStep setting (told_start_by (story_setting setting) (start_with setting.program o)) (main_started setting (slice_get setting.code setting.program.main))
      by_main None there = tt
      by_main (Some f) there =
          subst (λ o. FollowsWorldStep setting (told_start_by (story_setting setting) (start_with setting.program (Some f))) (main_started setting o)) (sym (ap (λ code. slice_get code setting.program.main) is.code ∙ instrumented-get setting.program setting.program.main f there))
          (subst (λ r. FollowsWorldStep setting (told_from f there r) (main_entered setting (machine.entry_of setting 0 setting.program.main 0 (shared_at_start setting)))) (sym (globals-first setting setting.program.globals (entry f there).news))
          (start-by f there _ _ (enters f there)))

  -- the whole run
  pub whole-run-follows : (turns : ℕ → ℕ) (bound : ℕ) → FollowsRun setting (told_run (story_setting setting) setting.input turns bound) (machine_run setting turns bound)
  unfolding told_run machine_run
  whole-run-follows turns bound =
      after-step-follows setting is turns (run_from (told_step (story_setting setting) setting.input) nothing_happened turns bound) (run_from (step_in setting) [] turns bound) (run-follows setting is turns bound)
      (told_start (story_setting setting)) (machine_start setting) start-follows
