-- States of a run that are as they should be, and steps that lead from one to another.
use Rattle.std.specs.Prelude.{◌≡◌, ℕ, ◌<◌, ◌^◌, List, [], ◌∷◌, length, slice_get, None, Some, ◌⊎◌}
use Rattle.hw_base.specs.declared.pointers.Obj.{Obj}
use Rattle.hw_tags.specs.TaskRuns.{Goes, Stays, Starts, Finishes, Ends, Stuck}
use Rattle.ir_core.specs.declared.ir_module.Declare.{Declare}
use Rattle.ir_core.specs.declared.ir_module.Module.{Module}
use Rattle.ir_core.specs.declared.lib_functions.Lib.TheVariants.{Calloc}
use Rattle.ir_core.specs.Runnable.{IsRunnable}
use Rattle.ir_check_types.specs.Rules.{type_fault}
use Rattle.ir_check_flow.specs.Check.{IsFlowFault}
use Rattle.ir_check_flow.specs.First.{IsFirstOf}
use Rattle.ir_meaning.specs.Births.{Birth, SourceObject, get_object}
use Rattle.ir_meaning.specs.BirthChanges.{OnlyGrow}
use Rattle.ir_meaning.specs.State.{SourceFrame, SourceSeen, SourceOutcome, SourceWorld}
use Rattle.well_typed_runs.specs.KnownValues.{AreGoodBirths}
use Rattle.well_typed_runs.specs.GoodFrames.{IsGoodFrame, AreGoodCallers, IsGoodTask}

-- a module whose names are resolved, that keeps the rules of types and flow, and is within the limits
pub record IsAccepted (m : Module) : Type 0 where
  pub runnable : IsRunnable m
  pub types : type_fault m ≡ None
  pub flow : IsFirstOf (IsFlowFault m) None

-- each object has fewer than 2^64 bytes, so that the scan of a string in it ends
abbrev pub AreSmall : List Birth → Type 0
AreSmall births = (o : Obj) (x : SourceObject) → get_object births o ≡ Some x → x.size < 2 ^ 64

-- the module doesn't declare `calloc`, which alone can make a block of 2^64 bytes or more
abbrev pub IsWithoutCalloc : Module → Type 0
IsWithoutCalloc m = (n : ℕ) (d : Declare) → slice_get m.declares n ≡ Some d → d.lib ≡ Calloc → ⊥

-- what a step of a task sees
pub record IsGoodSeen (m : Module) (s : SourceSeen) : Type 0 where
  pub births : AreGoodBirths m s.shared.births
  pub frame : IsGoodFrame m s.shared.births s.frame
  pub callers : AreGoodCallers m s.shared.births s.task s.frame.func s.callers

-- what all tasks share, and the frames of a task, after a step from births
pub record IsGoodAfter (m : Module) (earlier later : List Birth) (task : ℕ) (stack : List SourceFrame) : Type 0 where
  pub births : AreGoodBirths m later
  pub grow : OnlyGrow earlier later
  pub small : IsWithoutCalloc m → AreSmall earlier → AreSmall later
  pub frames : IsGoodTask m later task stack

-- what comes of a step is as it should be: it isn't stuck, and if it ends the run the frames of the task stay as they are or are gone
abbrev pub IsGoodOutcome : Module → SourceSeen → SourceOutcome → Type 0
IsGoodOutcome m s (Goes t report) = IsGoodAfter m s.shared.births t.shared.births s.task (t.frame ∷ t.callers)
IsGoodOutcome m s Stays = Unit {0}
IsGoodOutcome m s (Starts t report frame) =
    IsGoodAfter m s.shared.births t.shared.births s.task (t.frame ∷ t.callers) × IsGoodFrame m t.shared.births frame
IsGoodOutcome m s (Finishes shared report) = IsGoodAfter m s.shared.births shared.births s.task []
IsGoodOutcome m s (Ends shared frames report ending) = (frames ≡ s.frame ∷ s.callers) ⊎ (frames ≡ [])
IsGoodOutcome m s Stuck = ⊥

-- a state between two steps
pub record IsGoodWorld (m : Module) (w : SourceWorld) : Type 0 where
  pub births : AreGoodBirths m w.shared.births
  pub tasks : (k : ℕ) (frames : List SourceFrame) → slice_get w.tasks k ≡ Some frames → IsGoodTask m w.shared.births k frames
  pub first : 0 < length w.tasks
