-- The law of the table: where nothing is unbuilt, the machine runs all that the code of the module has.
use Rattle.std.specs.Prelude.{◌≡◌, All, None}
use Rattle.ir_core.specs.declared.ir_module.Declare.{Declare}
use Rattle.ir_core.specs.declared.ir_module.Module.{Module}
use Rattle.ir_core.specs.Externals.{IsThere}
use Rattle.ir_check_flow.specs.Checked.{IsChecked}
use Rattle.global_tags.specs.Loading.{CanBeLoaded}
use Rattle.ir_machine.specs.Built.{IsBuiltCode}
use Rattle.mi_code.specs.Instrumentation.{instrumented}
use Rattle.built_rows.specs.Unbuilt.{unbuilt}

-- the functions that the module declares are there, as all are that a name means
abbrev pub DeclaresAreThere : Module → Type 0
DeclaresAreThere m = All (λ (d : Declare). IsThere d.lib) m.declares

-- what the machine asks of a module and its code, beside what checking gives
pub record CanBeRun (m : Module) : Type 0 where
  pub code : IsBuiltCode (instrumented m)
  pub globals : CanBeLoaded m

-- an accepted module in which nothing is unbuilt can be run
abbrev pub BuiltCanBeRun : Type 0
BuiltCanBeRun = (m : Module) → IsChecked m → DeclaresAreThere m → unbuilt m ≡ None → CanBeRun m
