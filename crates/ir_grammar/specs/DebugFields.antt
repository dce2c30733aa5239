-- The fields of a metadata node, as its tokens spell them (LLVM Language Reference, "Specialized Metadata Nodes"). That
-- the first field of a name counts is this project's choice.
use Rattle.std.specs.Prelude.{ℕ, List, [], ◌∷◌, ◌++◌, map, ◌+◌, ◌-◌, ◌==◌, Bool, true, false, ◌&&◌, ◌||◌, if◌then◌else◌, Option, Some, None}
use Rattle.std.specs.Str.{bytes_eq}
use Rattle.ir_core.specs.declared.token.Token.{Token}
use Rattle.ir_core.specs.declared.token.TokenKind.{TokenKind}
use Rattle.ir_core.specs.declared.token.TokenKind.TheVariants.{Label, Mark}
use Rattle.ir_core.specs.Tokens.{bytes_of}
use Rattle.ir_text.specs.TokenText.{label_name}

-- a token's kind and its bytes
pub record Lexeme : Type 0 where
  pub kind : TokenKind
  pub bytes : List ℕ

-- a token of a text with its bytes
abbrev pub lexeme : List ℕ → Token → Lexeme
lexeme source t = record { kind = t.kind; bytes = bytes_of source t }

-- tokens of a text with their bytes
abbrev pub lexemes : List ℕ → List Token → List Lexeme
lexemes source tokens = map (lexeme source) tokens

-- it is a mark
abbrev pub is_mark_kind : TokenKind → Bool
is_mark_kind Mark = true
is_mark_kind _ = false

-- it is a label
abbrev pub is_label_kind : TokenKind → Bool
is_label_kind Label = true
is_label_kind _ = false

-- it is this mark
abbrev pub is_the : ℕ → Lexeme → Bool
is_the mark l = is_mark_kind l.kind && bytes_eq l.bytes (mark ∷ [])

-- ( [ or {
abbrev pub opens : Lexeme → Bool
opens l = (is_the 40 l || is_the 91 l) || is_the 123 l

-- ) ] or }
abbrev pub closes : Lexeme → Bool
closes l = (is_the 41 l || is_the 93 l) || is_the 125 l

-- the comma
abbrev pub is_comma : Lexeme → Bool
is_comma l = is_the 44 l

-- how many brackets are open behind a token, from how many are before it
abbrev pub depth_behind : Lexeme → ℕ → ℕ
depth_behind l depth = if opens l then depth + 1 else (if closes l then depth - 1 else depth)

-- the tokens before the first outside inner brackets that stops them
abbrev pub before : (Lexeme → Bool) → ℕ → List Lexeme → List Lexeme
before stops depth [] = []
before stops depth (l ∷ rest) = if (depth == 0) && stops l then [] else l ∷ before stops (depth_behind l depth) rest

-- the tokens inside a bracket, from behind it to before the one that closes it
abbrev pub inside : List Lexeme → List Lexeme
inside tokens = before closes 0 tokens

-- a field: its name and the tokens of its value
pub record Field : Type 0 where
  pub name : List ℕ
  pub value : List Lexeme

-- the field that a label begins: its value goes up to the next comma outside inner brackets
abbrev pub field_of : Lexeme → List Lexeme → Field
field_of label rest = record { name = label_name label.bytes; value = before is_comma 0 rest }

-- the fields among the tokens inside a node's brackets: each label outside inner brackets begins one
abbrev pub fields : ℕ → List Lexeme → List Field
fields depth [] = []
fields depth (l ∷ rest) = (if (depth == 0) && is_label_kind l.kind then field_of l rest ∷ [] else []) ++ fields (depth_behind l depth) rest

-- the value of the first field of this name, none where there is no such field
abbrev pub first_field : List ℕ → List Field → Option (List Lexeme)
first_field name [] = None
first_field name (f ∷ rest) = if bytes_eq f.name name then Some f.value else first_field name rest

-- the one token of a value
abbrev pub only_token : List Lexeme → Option Lexeme
only_token [] = None
only_token (l ∷ []) = Some l
only_token (l ∷ m ∷ rest) = None
