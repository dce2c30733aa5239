-- Which bytes are a token, kind by kind. The spellings are those of the LLVM Language Reference ("Identifiers" for names
-- and labels, "Simple Constants" for numbers, "Notational Conventions" for strings, "Metadata", "Attribute Groups"); that
-- they are sorted into these kinds is this project's choice.
use Rattle.std.specs.Prelude.{ℕ, List, [], ◌∷◌, ◌++◌, length, Bool, true, not, ◌≡◌, ◌≢◌, ◌<◌, ◌^◌, ◌==◌, ◌||◌, nat_le, ◌-◌, if◌then◌else◌, codes}
use Rattle.std.specs.List.{AllPass, list_any}
use Rattle.std.specs.Char.{is_ascii_digit, is_ascii_alphabetic}
use Rattle.std.specs.Str.Parse.{digits_value}
use Rattle.ir_core.specs.declared.token.TokenKind.{TokenKind}
use Rattle.ir_core.specs.declared.token.TokenKind.TheVariants.{Word, Label, Integer, Float, Local, Global, MetaName, MetaNumber, Bang, AttrNumber, DebugRecord, Text, Bytes, Mark}

-- the byte is one of these
abbrev pub is_one_of : List ℕ → ℕ → Bool
is_one_of bytes b = list_any (λ c. b == c) bytes

-- LF
abbrev pub line_feed : ℕ
line_feed = 10

-- "
abbrev pub quote : ℕ
quote = 34

-- :
abbrev pub colon : ℕ
colon = 58

-- -
abbrev pub minus : ℕ
minus = 45

-- a letter, `$`, `.` or `_`
abbrev pub begins_word : ℕ → Bool
begins_word b = is_ascii_alphabetic b || is_one_of (codes "$._") b

-- a letter, `$`, `.`, `_` or `-`: what a name behind `%`, `@` or `!` may begin with
abbrev pub begins_name : ℕ → Bool
begins_name b = begins_word b || b == minus

-- a letter, a digit, `$`, `.`, `_` or `-`
abbrev pub is_name_byte : ℕ → Bool
is_name_byte b = is_ascii_alphabetic b || is_ascii_digit b || is_one_of (codes "$._-") b

-- what stands after a float's digits
abbrev pub is_point : ℕ → Bool
is_point b = is_one_of (codes ".x") b

-- a letter, a digit, `.`, `+` or `-`
abbrev pub is_float_byte : ℕ → Bool
is_float_byte b = is_ascii_alphabetic b || is_ascii_digit b || is_one_of (codes ".+-") b

-- a letter or `_`
abbrev pub is_record_byte : ℕ → Bool
is_record_byte b = is_ascii_alphabetic b || b == 95

-- any byte but `"`
abbrev pub is_inside_string : ℕ → Bool
is_inside_string b = not (b == quote)

-- = , ( ) [ ] { } < > * and the bar
abbrev pub is_mark : ℕ → Bool
is_mark b = is_one_of (codes "=,()[]{}<>*|") b

-- one or more digits
pub record IsDigits (bytes : List ℕ) : Type 0 where
  pub some : 0 < length bytes
  pub digits : AllPass is_ascii_digit bytes

-- `"`, bytes other than `"`, `"`: a `\` hides nothing
pub data IsString : List ℕ → Type 0 where
  quoted : (inside : List ℕ) → AllPass is_inside_string inside → IsString (quote ∷ (inside ++ quote ∷ []))

-- a word that may also begin with `-`
pub data IsName : List ℕ → Type 0 where
  named : (b : ℕ) (bytes : List ℕ) → begins_name b ≡ true → AllPass is_name_byte bytes → IsName (b ∷ bytes)

-- what stands behind `%` and `@`: digits, a string or a name
pub data IsReference : List ℕ → Type 0 where
  by_number : (bytes : List ℕ) → IsDigits bytes → IsReference bytes
  by_string : (bytes : List ℕ) → IsString bytes → IsReference bytes
  by_name : (bytes : List ℕ) → IsName bytes → IsReference bytes

-- these bytes are a token of this kind, but for the range of an integer
pub data Spells : TokenKind → List ℕ → Type 0 where
  -- a letter, `$`, `.` or `_`, then letters, digits, `$ . _ -`; `...` by itself is a mark
  word : (b : ℕ) (bytes : List ℕ) → begins_word b ≡ true → AllPass is_name_byte bytes → (b ∷ bytes) ≢ codes "..." → Spells Word (b ∷ bytes)
  -- one or more of letters, digits, `$ . _ -`, and `:` at once
  label : (bytes : List ℕ) → 0 < length bytes → AllPass is_name_byte bytes → Spells Label (bytes ++ colon ∷ [])
  -- a string, and `:` at once
  string_label : (bytes : List ℕ) → IsString bytes → Spells Label (bytes ++ colon ∷ [])
  -- digits, with or without `-` before them
  integer : (bytes : List ℕ) → IsDigits bytes → Spells Integer bytes
  negative : (bytes : List ℕ) → IsDigits bytes → Spells Integer (minus ∷ bytes)
  -- digits, then `.` or `x` at once, then letters, digits, `. + -`
  float : (digits : List ℕ) (b : ℕ) (bytes : List ℕ) → IsDigits digits → is_point b ≡ true → AllPass is_float_byte bytes → Spells Float (digits ++ b ∷ bytes)
  -- `%` or `@`, then at once digits, a string or a name
  local : (bytes : List ℕ) → IsReference bytes → Spells Local (37 ∷ bytes)
  global : (bytes : List ℕ) → IsReference bytes → Spells Global (64 ∷ bytes)
  -- `!`, then at once a name, or digits, or nothing
  meta_name : (bytes : List ℕ) → IsName bytes → Spells MetaName (33 ∷ bytes)
  meta_number : (bytes : List ℕ) → IsDigits bytes → Spells MetaNumber (33 ∷ bytes)
  bang : Spells Bang (33 ∷ [])
  -- `#`, then digits
  attr_number : (bytes : List ℕ) → IsDigits bytes → Spells AttrNumber (35 ∷ bytes)
  -- `#dbg_`, then letters and `_`
  debug_record : (bytes : List ℕ) → AllPass is_record_byte bytes → Spells DebugRecord (codes "#dbg_" ++ bytes)
  -- a string
  string : (bytes : List ℕ) → IsString bytes → Spells Text bytes
  -- `c` and a string at once
  byte_string : (bytes : List ℕ) → IsString bytes → Spells Bytes (99 ∷ bytes)
  -- one of = , ( ) [ ] { } < > *, the bar, or `...`
  mark : (b : ℕ) → is_mark b ≡ true → Spells Mark (b ∷ [])
  dots : Spells Mark (codes "...")

-- an integer from -2^127 to 2^128 - 1, by its decimal digits after a `-` or none
abbrev pub is_in_range : List ℕ → Bool
is_in_range [] = true
is_in_range (b ∷ bytes) = if b == minus then nat_le (digits_value 10 bytes) (2 ^ 127) else nat_le (digits_value 10 (b ∷ bytes)) (2 ^ 128 - 1)
