-- What the cursor returns for the token at an offset of a text, and where it is then.
use Rattle.std.specs.Prelude.{ℕ, List, ◌≡◌}
use Rattle.ir_core.specs.declared.token.Token.{Token}
use Rattle.ir_core.specs.Tokenisation.{IsToken}

-- no token begins at this offset
abbrev pub BeginsNoToken : List ℕ → ℕ → Type 0
BeginsNoToken text at = (t : Token) → t.from ≡ at → IsToken text t → ⊥

-- no token begins here, and the cursor stays
pub record HasNoToken (text : List ℕ) (before after : ℕ) : Type 0 where
  pub none : BeginsNoToken text before
  pub at : after ≡ before

-- this token begins here, and the cursor is after it
pub record IsTaken (text : List ℕ) (before after : ℕ) (t : Token) : Type 0 where
  pub token : IsToken text t
  pub from : t.from ≡ before
  pub at : after ≡ t.to
