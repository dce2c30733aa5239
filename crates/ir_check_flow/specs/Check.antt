-- The flow of a module: that each use of a register has a definition on every path to it, and that phis have the entries that
-- they need. The refusal is the first in the text. This project's choice.
use Rattle.std.specs.Prelude.{◌≡◌, ℕ, List, slice_get, ◌⊎◌, Some, None, Result, Ok, Err}
use Rattle.ir_core.specs.declared.refusals.ReadError.{ReadError}
use Rattle.ir_core.specs.declared.refusals.ReadError.TheVariants.{Refused, OutOfMemory}
use Rattle.ir_core.specs.declared.refusals.Refusal.{Refusal}
use Rattle.ir_core.specs.declared.ir_module.Function.{Function}
use Rattle.ir_core.specs.declared.ir_module.Module.{Module}
use Rattle.ir_check_flow.specs.First.{IsFirstOf}
use Rattle.ir_check_flow.specs.Flow.{IsUndefinedUse}
use Rattle.ir_check_flow.specs.Phis.{IsBadPhi}

-- a refusal for one of several things
pub record IsAmong {A : Type 0} (refusals : A → Refusal → Type 0) (things : List A) (refusal : Refusal) : Type 0 where
  pub number : ℕ
  pub thing : A
  pub there : slice_get things number ≡ Some thing
  pub refused : refusals thing refusal

-- the refusals for the flow of a function
abbrev pub IsFlowFaultOf : Function → Refusal → Type 0
IsFlowFaultOf f refusal = IsUndefinedUse f refusal ⊎ IsBadPhi f refusal

-- the refusals for the flow of a module
abbrev pub IsFlowFault : Module → Refusal → Type 0
IsFlowFault m refusal = IsAmong IsFlowFaultOf m.functions refusal

-- what checking the flow of a module returns: nothing if there is no refusal, or the first one, unless memory ran out
abbrev pub IsFlowCheck : Module → Result (Unit {0}) ReadError → Type 0
IsFlowCheck m (Ok done) = IsFirstOf (IsFlowFault m) None
IsFlowCheck m (Err (Refused refusal)) = IsFirstOf (IsFlowFault m) (Some refusal)
IsFlowCheck m (Err OutOfMemory) = Unit {0}
