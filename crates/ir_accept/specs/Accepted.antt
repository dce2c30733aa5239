-- Texts that are accepted, and the faults of all others: those of reading, then those of types, then those of flow, and then limits.
-- The first of these with a fault decides. This project's choice.
use Rattle.std.specs.Prelude.{ℕ, ◌≡◌, ◌⊎◌, List, None, Result, Ok, Err}
use Rattle.ir_core.specs.declared.ir_module.Module.{Module}
use Rattle.ir_core.specs.declared.refusals.ReadError.{ReadError}
use Rattle.ir_core.specs.declared.refusals.ReadError.TheVariants.{Refused, OutOfMemory}
use Rattle.ir_core.specs.declared.refusals.Refusal.{Refusal}
use Rattle.ir_check_types.specs.Rules.{type_fault}
use Rattle.ir_check_flow.specs.Checked.{IsChecked, IsCheck}
use Rattle.ir_read_top.specs.Texts.{ReadsText}
use Rattle.ir_accept.specs.Typed.{IsTyped}

-- the text can be read and no rule of types is broken, and this is the first fault of its flow, or the first limit
pub record IsUnchecked (text : List ℕ) (refusal : Refusal) : Type 0 where
  pub m : Module
  pub read : ReadsText text (Ok m)
  pub types : type_fault m ≡ None
  pub fault : IsCheck m (Err (Refused refusal))

-- the text isn't accepted, and this is its fault
abbrev pub IsFaulty : List ℕ → Refusal → Type 0
IsFaulty text refusal = IsTyped text (Err (Refused refusal)) ⊎ IsUnchecked text refusal

-- the text is accepted, and this is its module
pub record IsAcceptedAs (text : List ℕ) (m : Module) : Type 0 where
  pub read : ReadsText text (Ok m)
  pub checked : IsChecked m

-- what accepting a text returns: its module, or its fault, unless memory ran out
abbrev pub Accepts : List ℕ → Result Module ReadError → Type 0
Accepts text (Ok m) = IsAcceptedAs text m
Accepts text (Err (Refused refusal)) = IsFaulty text refusal
Accepts text (Err OutOfMemory) = Unit {0}
