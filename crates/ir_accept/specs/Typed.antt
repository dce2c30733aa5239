-- Texts that can be read and in which no rule of types is broken, and the faults of all others. Reading comes first: a text that
-- can't be read is refused for that, whatever its types. This project's choice.
use Rattle.std.specs.Prelude.{ℕ, ◌≡◌, ◌⊎◌, List, None, Some, Result, Ok, Err}
use Rattle.ir_core.specs.declared.ir_module.Module.{Module}
use Rattle.ir_core.specs.declared.refusals.ReadError.{ReadError}
use Rattle.ir_core.specs.declared.refusals.ReadError.TheVariants.{Refused, OutOfMemory}
use Rattle.ir_core.specs.declared.refusals.Refusal.{Refusal}
use Rattle.ir_check_types.specs.Rules.{type_fault}
use Rattle.ir_read_top.specs.Texts.{ReadsText}

-- a text that can be read breaks a rule of types, and this is its first fault
pub record IsMistyped (text : List ℕ) (refusal : Refusal) : Type 0 where
  pub m : Module
  pub read : ReadsText text (Ok m)
  pub fault : type_fault m ≡ Some refusal

-- what reading a text and checking its types returns
abbrev pub IsTyped : List ℕ → Result Module ReadError → Type 0
IsTyped text (Ok m) = ReadsText text (Ok m) × (type_fault m ≡ None)
IsTyped text (Err (Refused refusal)) = ReadsText text (Err (Refused refusal)) ⊎ IsMistyped text refusal
IsTyped text (Err OutOfMemory) = Unit {0}
