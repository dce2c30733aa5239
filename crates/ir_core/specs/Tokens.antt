-- A text beside its tokens.
use Rattle.std.specs.Prelude.{ℕ, List, ◌-◌, ◌≤◌, length, take, drop}
use Rattle.ir_core.specs.declared.token.Token.{Token}

-- a text and a list of its tokens
pub record Tokenised : Type 0 where
  pub source : List ℕ
  pub tokens : List Token

-- the token's bytes are in order and in the text
pub record IsWithin (source : List ℕ) (t : Token) : Type 0 where
  pub ordered : t.from ≤ t.to
  pub inside : t.to ≤ length source

-- the bytes of the text from one offset to below another
abbrev pub bytes_between : List ℕ → ℕ → ℕ → List ℕ
bytes_between source from to = take (to - from) (drop from source)

-- the token's bytes
abbrev pub bytes_of : List ℕ → Token → List ℕ
bytes_of source t = bytes_between source t.from t.to
