-- How a text is cut into tokens, or where no token can be read. The tokens are those of `Spelling`; between them stand
-- blanks and comments (LLVM Language Reference, "Identifiers"). Places are this project's choice: lines and columns from 1,
-- columns in bytes, and LF alone ends a line.
use Rattle.std.specs.Prelude.{ℕ, List, [], ◌∷◌, ◌++◌, length, take, drop, get_or, Bool, true, false, not, ◌≡◌, ◌+◌, ◌<◌, ◌≤◌, ◌==◌, count_by}
use Rattle.std.specs.List.{AllPass, suffix_len}
use Rattle.ir_core.specs.declared.token.Token.{Token}
use Rattle.ir_core.specs.declared.token.TokenKind.{TokenKind}
use Rattle.ir_core.specs.declared.token.TokenKind.TheVariants.{Integer}
use Rattle.ir_core.specs.declared.refusals.Place.{Place}
use Rattle.ir_core.specs.Tokens.{IsWithin, bytes_between, bytes_of}
use Rattle.ir_core.specs.Spelling.{Spells, is_in_range, is_one_of, line_feed}

-- this byte ends a line
abbrev pub ends_line : ℕ → Bool
ends_line b = b == line_feed

-- this byte does not
abbrev pub stays_on_line : ℕ → Bool
stays_on_line b = not (b == line_feed)

-- the place behind these bytes: the line is one more than the lines that ended, the column one more than the bytes since
abbrev pub place_after : List ℕ → Place
place_after before = record { line = 1 + count_by ends_line before; column = 1 + suffix_len stays_on_line before }

-- `;`
abbrev pub semicolon : ℕ
semicolon = 59

-- space, tab, CR or LF
abbrev pub is_blank : ℕ → Bool
is_blank b = is_one_of (32 ∷ 9 ∷ 13 ∷ 10 ∷ []) b

-- a byte that separates tokens, or begins a comment
abbrev pub is_separator : ℕ → Bool
is_separator b = is_one_of (32 ∷ 9 ∷ 13 ∷ 10 ∷ semicolon ∷ []) b

-- what may stand between tokens: blanks, and comments from `;` to the LF that ends their line
pub data IsGap : List ℕ → Type 0 where
  none : IsGap []
  blank : (b : ℕ) (gap : List ℕ) → is_blank b ≡ true → IsGap gap → IsGap (b ∷ gap)
  comment : (words gap : List ℕ) → AllPass stays_on_line words → IsGap gap → IsGap (semicolon ∷ (words ++ line_feed ∷ gap))

-- a gap of the text, from one offset to below another
pub record IsGapOf (text : List ℕ) (from to : ℕ) : Type 0 where
  pub ordered : from ≤ to
  pub inside : to ≤ length text
  pub gap : IsGap (bytes_between text from to)

-- a token of the text: its bytes spell its kind, no longer bytes from there spell any, an integer is in its range, and
-- the place is that of its first byte
pub record IsToken (text : List ℕ) (t : Token) : Type 0 where
  pub within : IsWithin text t
  pub spelled : Spells t.kind (bytes_of text t)
  pub longest : (kind : TokenKind) (to : ℕ) → t.to < to → to ≤ length text → Spells kind (bytes_between text t.from to) → ⊥
  pub in_range : t.kind ≡ Integer → is_in_range (bytes_of text t) ≡ true
  pub placed : t.place ≡ place_after (take t.from text)

-- from one offset to another the text is a gap and a token in turn, and these are its tokens
abbrev pub IsCut : List ℕ → ℕ → List Token → ℕ → Type 0
IsCut text from [] to = from ≡ to
IsCut text from (t ∷ ts) to = IsGapOf text from t.from × IsToken text t × IsCut text t.to ts to

-- these are the tokens of the text: behind the last one only a gap is left, where the text's end ends a comment too
pub record IsTokenisation (text : List ℕ) (tokens : List Token) : Type 0 where
  pub last : ℕ
  pub cut : IsCut text 0 tokens last
  pub rest : IsGap (drop last text ++ line_feed ∷ [])

-- the first byte at which no token can be read is here: it begins what is left behind tokens and a gap, separates
-- nothing, and no token begins there
pub record IsBadTokenAt (text : List ℕ) (place : Place) : Type 0 where
  pub tokens : List Token
  pub last : ℕ
  pub cut : IsCut text 0 tokens last
  pub at : ℕ
  pub gap : IsGapOf text last at
  pub inside : at < length text
  pub begins : is_separator (get_or text at 0) ≡ false
  pub none : (t : Token) → t.from ≡ at → IsToken text t → ⊥
  pub placed : place ≡ place_after (take at text)

-- from an offset on, each gap and each token's bytes, one behind the other, and what is left behind the last
abbrev pub joined : List ℕ → ℕ → List Token → List ℕ
joined text from [] = drop from text
joined text from (t ∷ ts) = bytes_between text from t.from ++ (bytes_of text t ++ joined text t.to ts)
