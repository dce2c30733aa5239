-- The law of functions whose names are resolved.
use Rattle.std.specs.Prelude.{◌<◌, ◌^◌, length}
use Rattle.ir_core.specs.declared.ir_module.Module.{Module}
use Rattle.ir_core.specs.ResolvedBodies.{IsResolvedFunction}
use Rattle.ir_grammar.specs.SoundStore.{Counts}
use Rattle.ir_first_values.specs.Tables.{Tables}
use Rattle.ir_body_names.specs.BodyFaults.{Surroundings}
use Rattle.ir_functions.specs.Functions.{Spelled, scope_of, function_of}
use Rattle.ir_resolved.specs.Grounds.{HasGrounds, IsFaultless}

-- a function without a fault has no number in it that names nothing
abbrev pub FunctionsAreResolved : Type 0
FunctionsAreResolved = (names : Surroundings) (tables : Tables) (built m : Module) (counts : Counts) (f : Spelled)
    → HasGrounds (scope_of names tables built f) m counts → IsFaultless names counts f → length (function_of names tables built f).regs < 2 ^ 30
    → IsResolvedFunction m (function_of names tables built f)
