-- The token at the front of a text, without its place.
use Rattle.std.specs.Prelude.{ℕ, List, length, take, true, ◌≡◌, ◌<◌, ◌≤◌}
use Rattle.ir_core.specs.Spelling.{Spells, is_in_range}
use Rattle.ir_core.specs.declared.token.TokenKind.{TokenKind}
use Rattle.ir_core.specs.declared.token.TokenKind.TheVariants.{Integer}
use Rattle.ir_lex.specs.declared.reach.Found.{Found}

-- the text begins with a token of this kind and length, and with no longer one
pub record IsFront (text : List ℕ) (found : Found) : Type 0 where
  pub inside : found.len ≤ length text
  pub spelled : Spells found.kind (take found.len text)
  pub longest : (kind : TokenKind) (len : ℕ) → found.len < len → len ≤ length text → Spells kind (take len text) → ⊥
  pub in_range : found.kind ≡ Integer → is_in_range (take found.len text) ≡ true

-- the text begins with no token
abbrev pub HasNoFront : List ℕ → Type 0
HasNoFront text = (found : Found) → IsFront text found → ⊥
