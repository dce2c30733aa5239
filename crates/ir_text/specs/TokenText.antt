-- What single tokens say: a string's bytes, a name, a label's name, a node's number, a line or column. Strings and
-- numbers are written as in the LLVM Language Reference ("Identifiers", "Metadata Nodes and Metadata Strings"); that a
-- line or column out of range is 0 is this project's choice.
use Rattle.std.specs.Prelude.{ℕ, zero, suc, List, [], ◌∷◌, length, take, drop, ◌+◌, ◌-◌, ◌*◌, ◌==◌, ◌&&◌, nat_le, if◌then◌else◌}
use Rattle.std.specs.List.{list_all}
use Rattle.std.specs.Char.{is_ascii_digit, is_ascii_hexdigit, digit_value}
use Rattle.std.specs.Str.Parse.{digits_value}
use Rattle.ir_core.specs.Spelling.{quote}

-- `\`
abbrev pub backslash : ℕ
backslash = 92

-- a byte that a string stands for, and with how many bytes more than one it is written
pub record StringByte : Type 0 where
  pub byte : ℕ
  pub more : ℕ

-- a `\` that stands for itself
abbrev pub plain_backslash : StringByte
plain_backslash = record { byte = backslash; more = 0 }

-- a `\` before this byte and those: with two hexadecimal digits it is the byte that they write
abbrev pub hexadecimal_byte : ℕ → List ℕ → StringByte
hexadecimal_byte high [] = plain_backslash
hexadecimal_byte high (low ∷ rest) = if is_ascii_hexdigit high && is_ascii_hexdigit low then record { byte = 16 * digit_value high + digit_value low; more = 2 } else plain_backslash

-- a `\` before these bytes: `\\` is one backslash
abbrev pub escaped_byte : List ℕ → StringByte
escaped_byte [] = plain_backslash
escaped_byte (b ∷ rest) = if b == backslash then record { byte = backslash; more = 1 } else hexadecimal_byte b rest

-- the byte that this one before those stands for
abbrev pub front_byte : ℕ → List ℕ → StringByte
front_byte b rest = if b == backslash then escaped_byte rest else record { byte = b; more = 0 }

-- the bytes that these stand for, behind so many that belong to a byte before them
abbrev pub unescaped_behind : ℕ → List ℕ → List ℕ
unescaped_behind taken [] = []
unescaped_behind zero (b ∷ rest) = (front_byte b rest).byte ∷ unescaped_behind (front_byte b rest).more rest
unescaped_behind (suc taken) (b ∷ rest) = unescaped_behind taken rest

-- the bytes that these stand for
abbrev pub unescaped : List ℕ → List ℕ
unescaped bytes = unescaped_behind 0 bytes

-- what stands between a string's quotes
abbrev pub between_quotes : List ℕ → List ℕ
between_quotes bytes = take (length bytes - 2) (drop 1 bytes)

-- the bytes that a string stands for
abbrev pub string_bytes_of : List ℕ → List ℕ
string_bytes_of bytes = unescaped (between_quotes bytes)

-- a name is its own bytes, or those that a string stands for
abbrev pub name_bytes : List ℕ → List ℕ
name_bytes [] = []
name_bytes (b ∷ rest) = if b == quote then string_bytes_of (b ∷ rest) else b ∷ rest

-- the name in a label, which is what stands before its `:`
abbrev pub label_name : List ℕ → List ℕ
label_name bytes = name_bytes (take (length bytes - 1) bytes)

-- digits from the first that isn't 0 on: two numbers, of any length, are the same where these are
abbrev pub significant : List ℕ → List ℕ
significant [] = []
significant (b ∷ rest) = if b == 48 then significant rest else b ∷ rest

-- the number behind a `!`
abbrev pub number_behind_bang : List ℕ → List ℕ
number_behind_bang bytes = significant (drop 1 bytes)

-- the number that these digits write, 0 where they don't write one from 0 to 4,294,967,295
abbrev pub small_number : List ℕ → ℕ
small_number bytes = if list_all is_ascii_digit bytes && nat_le (digits_value 10 bytes) 4294967295 then digits_value 10 bytes else 0

-- the line or column that these digits write, 0 where they don't write one from 0 to 4,294,967,295
abbrev pub line_or_column : List ℕ → ℕ
line_or_column bytes = small_number bytes
