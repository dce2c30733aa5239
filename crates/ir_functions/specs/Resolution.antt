-- What resolving a function answers.
use Rattle.std.specs.Prelude.{◌≡◌, Option, Some, None, Result, Ok, Err}
use Rattle.ir_core.specs.declared.ir_module.Function.{Function}
use Rattle.ir_core.specs.declared.ir_module.Module.{Module}
use Rattle.ir_names.specs.declared.fault.NamesError.{NamesError}
use Rattle.ir_names.specs.declared.fault.NamesError.TheVariants.{Fault, OutOfMemory}
use Rattle.ir_names.specs.First.{first_fault}
use Rattle.ir_first_values.specs.Tables.{Tables}
use Rattle.ir_body_names.specs.BodyFaults.{Surroundings, body_faults}
use Rattle.ir_functions.specs.declared.functions.SpelledFunction.{SpelledFunction}
use Rattle.ir_functions.specs.Functions.{Spelled, function_of}

-- a function as the definitions see it
abbrev pub spelled_function : SpelledFunction → Spelled
spelled_function f = record { name = f.name; result = f.result; parameters = f.parameters.now; blocks = f.blocks.now }

-- no name in the function has a fault, and this is what it stands for
pub record IsFunctionOf (names : Surroundings) (tables : Tables) (m : Module) (f : Spelled) (built : Function) : Type 0 where
  pub faultless : first_fault (body_faults names f.parameters f.blocks) ≡ None
  pub same : built ≡ function_of names tables m f

-- the function, or the first fault of a name in it, unless memory ran out
abbrev pub Resolves : Surroundings → Tables → Module → Spelled → Result Function NamesError → Type 0
Resolves names tables m f (Ok built) = IsFunctionOf names tables m f built
Resolves names tables m f (Err (Fault fault)) = first_fault (body_faults names f.parameters f.blocks) ≡ Some fault
Resolves names tables m f (Err OutOfMemory) = Unit {0}
