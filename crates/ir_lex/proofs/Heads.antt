-- No token begins with a blank or a comment.
use Rattle.std.proofs.Common.{◌≡◌, ℕ, ◌<◌, List, [], ◌∷◌, ◌++◌, true, false, length, get_or, arith, refl}
use Rattle.std.specs.List.{AllPass}
use Rattle.std.specs.Char.{is_ascii_digit}
use Rattle.std.proofs.lemmas.List.Elements.{All-head}
use Rattle.ir_core.specs.Spelling.{Spells, IsDigits, IsString, is_name_byte, colon}
use Rattle.ir_core.specs.Spelling.IsString.{quoted}
use Rattle.ir_core.specs.Spelling.Spells.{word, label, string_label, integer, negative, float, local, global, meta_name, meta_number, bang, attr_number, debug_record, string, byte_string, mark, dots}
use Rattle.ir_core.specs.Tokenisation.{is_separator}
use Rattle.ir_core.specs.declared.token.TokenKind.{TokenKind}
use Rattle.ir_lex.proofs.Bytes.{name-from_word, name-from_digit, separator-from_name, separator-from_mark}

label_head : (s t : List ℕ) → 0 < length s → AllPass is_name_byte s → is_separator (get_or (s ++ t) 0 0) ≡ false
label_head [] t some h = absurd (omega arith)
label_head (b ∷ s) t some h = separator-from_name b (All-head (λ x. is_name_byte x ≡ true) b s h)

digits_head : (s t : List ℕ) → IsDigits s → is_separator (get_or (s ++ t) 0 0) ≡ false
digits_head [] t h = absurd (omega (arith, h.some))
digits_head (b ∷ s) t h = separator-from_name b (name-from_digit b (All-head (λ x. is_ascii_digit x ≡ true) b s h.digits))

digits_begin : (s : List ℕ) → IsDigits s → is_separator (get_or s 0 0) ≡ false
digits_begin [] h = absurd (omega (arith, h.some))
digits_begin (b ∷ s) h = separator-from_name b (name-from_digit b (All-head (λ x. is_ascii_digit x ≡ true) b s h.digits))

string_head : (s t : List ℕ) → IsString s → is_separator (get_or (s ++ t) 0 0) ≡ false
string_head _ t (quoted inside h) = refl

-- the first byte of a token separates nothing
pub spells_head : (kind : TokenKind) (s : List ℕ) → Spells kind s → is_separator (get_or s 0 0) ≡ false
spells_head _ _ (word b bytes begins h others) = separator-from_name b (name-from_word b begins)
spells_head _ _ (label s some h) = label_head s (colon ∷ []) some h
spells_head _ _ (string_label s h) = string_head s (colon ∷ []) h
spells_head _ _ (integer s h) = digits_begin s h
spells_head _ _ (negative s h) = refl
spells_head _ _ (float digits b bytes ds point h) = digits_head digits (b ∷ bytes) ds
spells_head _ _ (local s h) = refl
spells_head _ _ (global s h) = refl
spells_head _ _ (meta_name s h) = refl
spells_head _ _ (meta_number s h) = refl
spells_head _ _ bang = refl
spells_head _ _ (attr_number s h) = refl
spells_head _ _ (debug_record bytes h) = refl
spells_head _ _ (string _ (quoted inside h)) = refl
spells_head _ _ (byte_string s h) = refl
spells_head _ _ (mark b h) = separator-from_mark b h
spells_head _ _ dots = refl
