-- What pieces of a first value are, if the type has a size of at most 2^40 bytes and names stand for variables that are
-- there.
use Rattle.std.specs.Prelude.{ℕ, ◌+◌, ◌<◌, ◌≤◌, List, Option, IfSome, All}
use Rattle.ir_core.specs.declared.operands.Part.{Part}
use Rattle.ir_core.specs.Resolved.{IsPieceOf}

-- a piece lies from one byte to below another
pub record IsPieceIn (globals from to : ℕ) (part : Part) : Type 0 where
  pub starts : from ≤ part.at
  pub ends : part.at + part.size ≤ to
  pub piece : IsPieceOf globals part.size part.value

-- each name of a variable stands for one of so many
abbrev pub AreNumbered : ℕ → List (Option ℕ) → Type 0
AreNumbered globals variables = All (λ v. IfSome v (λ g. g < globals)) variables
