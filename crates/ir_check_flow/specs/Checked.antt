-- Modules that are accepted: their names are resolved, the debug locations end, no rule of types or flow is broken, and no limit is
-- exceeded. What the last of these checks returns. This project's choice.
use Rattle.std.specs.Prelude.{◌≡◌, ◌⊎◌, None, Some, Result, Ok, Err}
use Rattle.ir_core.specs.declared.refusals.ReadError.{ReadError}
use Rattle.ir_core.specs.declared.refusals.ReadError.TheVariants.{Refused, OutOfMemory}
use Rattle.ir_core.specs.declared.ir_module.Module.{Module}
use Rattle.ir_core.specs.ResolvedBodies.{IsResolved}
use Rattle.ir_core.specs.Runnable.{IsRunnable}
use Rattle.ir_core.specs.Scopes.{HasEndingScopes}
use Rattle.ir_check_types.specs.Rules.{type_fault}
use Rattle.ir_check_flow.specs.Check.{IsFlowFault}
use Rattle.ir_check_flow.specs.First.{IsFirstOf}
use Rattle.ir_check_flow.specs.Limits.{limit_fault}

-- what is known of a module that passed all checks
pub record IsChecked (m : Module) : Type 0 where
  pub scopes : HasEndingScopes m
  pub types : type_fault m ≡ None
  pub flow : IsFirstOf (IsFlowFault m) None
  pub limits : limit_fault m ≡ None
  pub runnable : IsRunnable m

-- What checking flow and limits returns: the same module if there is no refusal, else the first one for its flow, or if there is
-- none the first limit that it exceeds; unless memory ran out.
abbrev pub IsCheck : Module → Result Module ReadError → Type 0
IsCheck m (Ok checked) = (checked ≡ m) × IsFirstOf (IsFlowFault m) None × (limit_fault m ≡ None)
IsCheck m (Err (Refused refusal)) = IsFirstOf (IsFlowFault m) (Some refusal) ⊎ (IsFirstOf (IsFlowFault m) None × (limit_fault m ≡ Some refusal))
IsCheck m (Err OutOfMemory) = Unit {0}

-- accepted modules have all that a run needs
abbrev pub AcceptedCanBeRun : Type 0
AcceptedCanBeRun = (m : Module) → IsResolved m → type_fault m ≡ None → IsFirstOf (IsFlowFault m) None → limit_fault m ≡ None → IsRunnable m
