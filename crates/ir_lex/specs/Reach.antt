-- How far a token of each kind reaches from the front of a text: the length in bytes of the longest one, 0 if there
-- is none. `names` is always the number of name bytes at the front.
use Rattle.std.specs.Prelude.{ℕ, List, [], length, drop, get_or, Bool, not, ◌&&◌, ◌+◌, ◌==◌, nat_lt, nat_eq, max, fold, if◌then◌else◌, codes}
use Rattle.std.specs.List.{prefix_len, starts_with}
use Rattle.std.specs.Char.{is_ascii_digit}
use Rattle.ir_core.specs.Spelling.{quote, colon, minus, begins_word, begins_name, is_name_byte, is_point, is_float_byte, is_record_byte, is_inside_string, is_mark}
use Rattle.ir_core.specs.declared.token.TokenKind.{TokenKind}
use Rattle.ir_core.specs.declared.token.TokenKind.TheVariants.{Word, Label, Integer, Float, Local, Global, MetaName, MetaNumber, Bang, AttrNumber, DebugRecord, Text, Bytes, Mark}
use Rattle.ir_lex.specs.declared.reach.Found.{Found}
use Rattle.ir_lex.specs.declared.reach.TheConstants.{KINDS}

-- what follows a first byte, nothing if the first byte is another
abbrev pub behind : ℕ → List ℕ → List ℕ
behind b text = if get_or text 0 0 == b then drop 1 text else []

-- one byte more, if there is something
abbrev pub grown : ℕ → ℕ
grown n = if nat_lt 0 n then n + 1 else 0

-- the same with the colon at once after it
abbrev pub with_colon : ℕ → List ℕ → ℕ
with_colon n text = if nat_lt 0 n && (get_or text n 0 == colon) then n + 1 else 0

-- the digits at the front
unfoldable pub digits_reach : List ℕ → ℕ
digits_reach text = prefix_len is_ascii_digit text

-- the bytes in the quotes, and both quotes
abbrev pub closed : ℕ → List ℕ → ℕ
closed n rest = if nat_lt n (length rest) then n + 2 else 0

-- the string at the front
unfoldable pub quoted_reach : List ℕ → ℕ
quoted_reach text = closed (prefix_len is_inside_string (behind quote text)) (behind quote text)

-- the name at the front, after `%`, `@` or `!`
unfoldable pub named_reach : List ℕ → ℕ
named_reach text = if begins_name (get_or text 0 0) then prefix_len is_name_byte text else 0

-- what follows `%` and `@`
unfoldable pub reference_reach : List ℕ → ℕ
reference_reach text = max (digits_reach text) (max (quoted_reach text) (named_reach text))

-- the name bytes at the front are `...` alone
abbrev pub is_dots : ℕ → List ℕ → Bool
is_dots names text = (names == 3) && starts_with nat_eq text (codes "...")

unfoldable pub word_reach : ℕ → List ℕ → ℕ
word_reach names text = if begins_word (get_or text 0 0) && not (is_dots names text) then names else 0

unfoldable pub label_reach : ℕ → List ℕ → ℕ
label_reach names text = max (with_colon names text) (with_colon (quoted_reach text) text)

unfoldable pub integer_reach : List ℕ → ℕ
integer_reach text = max (digits_reach text) (grown (digits_reach (behind minus text)))

-- digits, a point, and what follows
abbrev pub pointed : ℕ → List ℕ → ℕ
pointed n text = if nat_lt 0 n && is_point (get_or text n 0) then n + 1 + prefix_len is_float_byte (drop (n + 1) text) else 0

unfoldable pub float_reach : List ℕ → ℕ
float_reach text = pointed (digits_reach text) text

unfoldable pub record_reach : List ℕ → ℕ
record_reach text = if starts_with nat_eq text (codes "#dbg_") then 5 + prefix_len is_record_byte (drop 5 text) else 0

unfoldable pub bang_reach : List ℕ → ℕ
bang_reach text = if get_or text 0 0 == 33 then 1 else 0

unfoldable pub mark_reach : List ℕ → ℕ
mark_reach text = if starts_with nat_eq text (codes "...") then 3 else (if is_mark (get_or text 0 0) then 1 else 0)

-- how far a token of this kind reaches
abbrev pub reach : TokenKind → ℕ → List ℕ → ℕ
reach Word names text = word_reach names text
reach Label names text = label_reach names text
reach Integer names text = integer_reach text
reach Float names text = float_reach text
reach Local names text = grown (reference_reach (behind 37 text))
reach Global names text = grown (reference_reach (behind 64 text))
reach MetaName names text = grown (named_reach (behind 33 text))
reach MetaNumber names text = grown (digits_reach (behind 33 text))
reach Bang names text = bang_reach text
reach AttrNumber names text = grown (digits_reach (behind 35 text))
reach DebugRecord names text = record_reach text
reach Text names text = quoted_reach text
reach Bytes names text = grown (quoted_reach (behind 99 text))
reach Mark names text = mark_reach text

-- the longer of what was found and a token of this kind
unfoldable pub longer : ℕ → List ℕ → Found → TokenKind → Found
longer names text best kind = if nat_lt best.len (reach kind names text) then record { kind = kind; len = reach kind names text } else best

-- the longest among tokens of these kinds, of length 0 if there is none
abbrev pub longest_among : List TokenKind → ℕ → List ℕ → Found
longest_among kinds names text = fold (longer names text) (record { kind = Word; len = 0 }) kinds

-- the longest token at the front
unfoldable pub longest : ℕ → List ℕ → Found
longest names text = longest_among KINDS names text
