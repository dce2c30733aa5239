-- The steps of a run keep its tables together.
use Rattle.std.proofs.Common.{◌≡◌, ℕ, zero, suc, ◌≤◌, List, [], ◌∷◌, ◌++◌, length, Option, Some, None, refl, sym, ◌∙◌, subst, inl, inr, arith}
use Rattle.std.specs.Prelude.{slice_get, slice_set, option_map, Result, Ok, Err}
use Rattle.std.proofs.lemmas.Bool.{cases_eq}
use Rattle.std.proofs.lemmas.List.{length-append, length-set}
use Rattle.hw_base.specs.declared.endings.Full.{Full}
use Rattle.hw_tags.specs.InputState.{next_input}
use Rattle.hw_tags.specs.TaskRuns.{Goes, Stays, Starts, Finishes, Ends, Stuck, Next, Last, NoStep, seen, lifted, task_step, counted, next_task, world_step}
use Rattle.tbi_memory.proofs.ListLemmas.{slice_get-set_at, slice_get-set_other}
use Rattle.dbg_sites.specs.ChainTable.{ChainEntry}
use Rattle.dbg_sites.proofs.ChainLemmas.{empty_table}
use Rattle.stack_tags.specs.Frames as stacks
use Rattle.stack_tags.proofs.LivingSizeLemmas.{stacks-with_task}
use Rattle.mi_code.specs.declared.code_functions.CodeFunction.{CodeFunction}
use Rattle.ir_tasks.specs.Frames.{Frame}
use Rattle.ir_machine.specs.State.{MachineSetting, MachineSeen, MachineOutcome, MachineWorld, MachineWorldStep}
use Rattle.ir_machine.specs.ReachableWorlds.{FitTogether, AreNumbered, HasTables}
use Rattle.ir_machine.specs.CallSteps.{AfterEntry, entry_of, frame_for}
use Rattle.ir_machine.specs.Runs.{step_in}
use Rattle.ir_machine.specs.Start.{shared_at_start, main_entered, main_started, machine_start}
use Rattle.ir_machine.proofs.KeptTables.{KeepsTables, numbered-grows}
use Rattle.ir_machine.proofs.TableCalls.{EntersTogether, entry-together, step-tables}

-- the state after a step has its tables
abbrev pub StepHasTables : MachineWorldStep → Type 0
StepHasTables (Next w report) = HasTables w
StepHasTables (Last w report ending) = Unit {0}
StepHasTables NoStep = Unit {0}

abbrev AllNumbered : List ChainEntry → List (List Frame) → Type 0
AllNumbered chains tasks = (k : ℕ) (frames : List Frame) → slice_get tasks k ≡ Some frames → AreNumbered chains frames

set-there : (o : Option (List Frame)) (new frames : List Frame) → option_map (λ _old. new) o ≡ Some frames → new ≡ frames
set-there None new frames h = absurd (cc)
set-there (Some old) new frames h = cc

-- one task's frames are changed, and the chains may be more
numbered-set : (chains more : List ChainEntry) (tasks : List (List Frame)) (k : ℕ) (new : List Frame) → length chains ≤ length more → AllNumbered chains tasks → AreNumbered more new → AllNumbered more (slice_set tasks k new)
numbered-set chains more tasks k new grown all fresh j frames h =
    elim (cases_eq j k) [
      | inl same ↦
          let at : slice_get (slice_set tasks k new) k ≡ Some frames = subst (λ (n : ℕ). slice_get (slice_set tasks k new) n ≡ Some frames) same h in
          subst (AreNumbered more) (set-there (slice_get tasks k) new frames (sym (slice_get-set_at tasks k new) ∙ at)) fresh
      | inr other ↦ numbered-grows chains more frames grown (all j frames (sym (slice_get-set_other tasks k j new other) ∙ h))
    ]

numbered-more : (chains : List ChainEntry) (tasks : List (List Frame)) (frame : Frame) → frame.chain ≤ length chains → AllNumbered chains tasks → AllNumbered chains (tasks ++ (frame ∷ []) ∷ [])
numbered-more chains [] frame bound all zero frames h = let e : frame ∷ [] ≡ frames = cc in subst (AreNumbered chains) e (bound, tt)
numbered-more chains [] frame bound all (suc j) frames h = absurd (cc)
numbered-more chains (task ∷ tasks) frame bound all zero frames h = all 0 frames h
numbered-more chains (task ∷ tasks) frame bound all (suc j) frames h =
    numbered-more chains tasks frame bound (λ (i : ℕ) (others : List Frame) (there : slice_get tasks i ≡ Some others). all (suc i) others there) j frames h

-- the tables fit for as many tasks
fit-for : (w : MachineWorld) (old : ℕ) → old ≡ length w.tasks → FitTogether w.shared.heap w.shared.stacks w.shared.chains old → FitTogether w.shared.heap w.shared.stacks w.shared.chains (length w.tasks)
fit-for w old same fit = subst (FitTogether w.shared.heap w.shared.stacks w.shared.chains) same fit

lifted-tables : (w : MachineWorld) (k : ℕ) (outcome : MachineOutcome) → HasTables w → KeepsTables (length w.tasks) (length w.shared.chains) outcome → StepHasTables (lifted w k [] outcome)
lifted-tables w k (Goes s report) tables h =
    record {
      fit = subst (FitTogether s.shared.heap s.shared.stacks s.shared.chains) (sym (length-set w.tasks k (s.frame ∷ s.callers))) h.0;
      numbered = numbered-set w.shared.chains s.shared.chains w.tasks k (s.frame ∷ s.callers) h.1 tables.numbered h.2;
    }
lifted-tables w k Stays tables h = tables
lifted-tables w k (Starts s report frame) tables h =
    let tasks = slice_set w.tasks k (s.frame ∷ s.callers) in
    let same = length-set w.tasks k (s.frame ∷ s.callers) in
    let more = length-append tasks ((frame ∷ []) ∷ []) in
    let all : suc (length w.tasks) ≡ length (tasks ++ (frame ∷ []) ∷ []) = omega (arith, same, more) in
    let together = h.0 in
    record {
      fit = subst (FitTogether s.shared.heap s.shared.stacks s.shared.chains) all together.0;
      numbered = numbered-more s.shared.chains tasks frame h.1 (numbered-set w.shared.chains s.shared.chains w.tasks k (s.frame ∷ s.callers) together.1 tables.numbered together.2);
    }
lifted-tables w k (Finishes shared report) tables h =
    record {
      fit = subst (FitTogether shared.heap shared.stacks shared.chains) (sym (length-set {A = List Frame} w.tasks k [])) h.0;
      numbered = numbered-set w.shared.chains shared.chains w.tasks k [] h.1 tables.numbered tt;
    }
lifted-tables w k (Ends shared frames report ending) tables h = tt
lifted-tables w k Stuck tables h = tt

-- the step of a task, by its frames
task-tables : (setting : MachineSetting) (w : MachineWorld) (k : ℕ) (o : Option (List Frame)) → HasTables w → slice_get w.tasks k ≡ o → StepHasTables (task_step (step_in setting) [] w k o)
task-tables setting w k None tables there = tt
task-tables setting w k (Some []) tables there = tt
task-tables setting w k (Some (frame ∷ callers)) tables there =
    let s : MachineSeen = seen w k frame callers in
    lifted-tables w k (step_in setting s) tables
    (step-tables (length w.tasks) (length w.shared.chains) setting (next_input setting.input w.shared.input) s
    (tables.fit, omega arith, tables.numbered k (frame ∷ callers) there))

pub world-tables : (setting : MachineSetting) (turns : ℕ → ℕ) (w : MachineWorld) → HasTables w → StepHasTables (world_step (step_in setting) [] turns w)
unfolding world_step
world-tables setting turns w tables =
    task-tables setting (counted w) (next_task turns w) (slice_get w.tasks (next_task turns w)) (record { fit = tables.fit; numbered = tables.numbered }) refl

-- ---- the start

start-fit : (setting : MachineSetting) → FitTogether (shared_at_start setting).heap (shared_at_start setting).stacks (shared_at_start setting).chains 1
start-fit setting =
    record {
      rings = refl;
      blocks = record { apart = tt; sum = refl };
      stacks_of = refl;
      follow = stacks-with_task (stacks.stacks_at_start setting.places setting.ring) (λ (task : ℕ). tt);
      table = empty_table;
    }

entered-tables : (setting : MachineSetting) (r : Result AfterEntry Full) → EntersTogether 1 [] r → StepHasTables (main_entered setting r)
entered-tables setting (Err full) h = tt
entered-tables setting (Ok after) h =
    record {
      fit = h.0;
      numbered = numbered-more after.shared.chains [] (frame_for setting.code setting.program.main after.place [] 0) (omega arith) (λ (i : ℕ) (frames : List Frame) (none : slice_get {X = List Frame} [] i ≡ Some frames). absurd (cc));
    }

started-tables : (setting : MachineSetting) (o : Option CodeFunction) → StepHasTables (main_started setting o)
started-tables setting None = tt
started-tables setting (Some code) =
    entered-tables setting (entry_of setting 0 setting.program.main 0 (shared_at_start setting)) (entry-together 1 setting 0 setting.program.main 0 (shared_at_start setting) (start-fit setting))

pub start-tables : (setting : MachineSetting) → StepHasTables (machine_start setting)
unfolding machine_start
start-tables setting = started-tables setting (slice_get setting.code setting.program.main)
