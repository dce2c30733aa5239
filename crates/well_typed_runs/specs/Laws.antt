-- What is true of the runs of accepted modules.
use Rattle.std.specs.Prelude.{◌≡◌, ◌≢◌, ℕ, ◌<◌, List}
use Rattle.hw_tags.specs.TaskRuns.{Spent, IsStuck, Ended}
use Rattle.ir_core.specs.declared.ir_module.Module.{Module}
use Rattle.ir_check_flow.specs.Checked.{IsChecked}
use Rattle.ir_meaning.specs.Runs.{source_run}
use Rattle.ir_meaning.specs.State.{SourceReport, SourceWorld, SourceEnding}
use Rattle.well_typed_runs.specs.GoodWorlds.{AreSmall, IsAccepted, IsGoodWorld, IsWithoutCalloc}
use Rattle.well_typed_runs.specs.Typed.{TasksAreTyped}

-- in the states before so many steps of a run each object has fewer than 2^64 bytes
abbrev pub StaysSmall : Module → (input : List ℕ) → (turns : ℕ → ℕ) → (bound : ℕ) → Type 0
StaysSmall m input turns bound =
    (n : ℕ) (w : SourceWorld) (reports : List SourceReport) → n < bound → source_run m input turns n ≡ Spent w reports → AreSmall w.shared.births

-- a module that passed all checks is accepted
abbrev pub CheckedAreAccepted : Type 0
CheckedAreAccepted = (m : Module) → IsChecked m → IsAccepted m

-- no step of a run is stuck
abbrev pub RunsAreNeverStuck : Type 0
RunsAreNeverStuck =
    (m : Module) (input : List ℕ) (turns : ℕ → ℕ) (bound : ℕ) → IsAccepted m → StaysSmall m input turns bound → source_run m input turns bound ≢ IsStuck

-- a module that doesn't declare `calloc` keeps objects small
abbrev pub WithoutCallocStaysSmall : Type 0
WithoutCallocStaysSmall = (m : Module) (input : List ℕ) (turns : ℕ → ℕ) (bound : ℕ) → IsAccepted m → IsWithoutCalloc m → StaysSmall m input turns bound

-- the states that a run comes to are as they should be
abbrev pub StatesAreGood : Type 0
StatesAreGood =
    (m : Module) (input : List ℕ) (turns : ℕ → ℕ) (bound : ℕ) (w : SourceWorld) (reports : List SourceReport) → IsAccepted m → StaysSmall m input turns bound
    → source_run m input turns bound ≡ Spent w reports → IsGoodWorld m w

-- each register that holds a value holds one of its type, in the states that a run comes to and in the last one of a run that ended
abbrev pub RegistersAreTyped : Type 0
RegistersAreTyped =
    (m : Module) (input : List ℕ) (turns : ℕ → ℕ) (bound : ℕ) (w : SourceWorld) (reports : List SourceReport) → IsAccepted m → StaysSmall m input turns bound
    → source_run m input turns bound ≡ Spent w reports → TasksAreTyped m w

abbrev pub LastRegistersAreTyped : Type 0
LastRegistersAreTyped =
    (m : Module) (input : List ℕ) (turns : ℕ → ℕ) (bound : ℕ) (w : SourceWorld) (reports : List SourceReport) (ending : SourceEnding) → IsAccepted m
    → StaysSmall m input turns bound → source_run m input turns bound ≡ Ended w reports ending → TasksAreTyped m w
