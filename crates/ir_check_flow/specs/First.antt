-- What it is to be the first of some refusals.
use Rattle.std.specs.Prelude.{◌≡◌, false, Option, None, Some}
use Rattle.ir_core.specs.declared.refusals.Refusal.{Refusal}
use Rattle.ir_check_types.specs.Order.{is_before}

-- the refusal is one of these, and none of them is reported before it
pub record IsFirst (refusals : Refusal → Type 0) (first : Refusal) : Type 0 where
  pub one : refusals first
  pub before_all : (other : Refusal) → refusals other → is_before other first ≡ false

-- the first of these refusals, or none if there is none
abbrev pub IsFirstOf : (Refusal → Type 0) → Option Refusal → Type 0
IsFirstOf refusals None = (refusal : Refusal) → refusals refusal → ⊥
IsFirstOf refusals (Some first) = IsFirst refusals first
