-- No bytes are a token of two kinds: their first bytes tell the kind.
use Rattle.std.proofs.Common.{◌≡◌, ℕ, ◌+◌, ◌<◌, List, [], ◌∷◌, ◌++◌, true, false, cond, eqb, length, get_or, arith, refl, sym, ◌∙◌, subst, inl, inr, append_assoc, ◌||◌, length-append, eq-eqb, ne_eqb}
use Rattle.std.specs.Prelude.{nat_eq, codes}
use Rattle.std.specs.List.{prefix_len, AllPass, list_any}
use Rattle.std.specs.Char.{is_ascii_digit}
use Rattle.std.specs.Cmp.Lexicographic.{same_text, pointwise}
use Rattle.std.proofs.lemmas.Bool.{cond-true, cond-false, cases_lt, or_right, or_from, false_from_ne_true}
use Rattle.std.proofs.lemmas.List.{get_or_at, get_or_past}
use Rattle.std.proofs.lemmas.List.Elements.{All-cons, All-head, All-tail, All-append, All-weaker}
use Rattle.ir_core.specs.Spelling.{Spells, IsDigits, IsString, IsName, is_name_byte, begins_word, is_inside_string, is_float_byte, is_point, is_mark, colon, minus, quote}
use Rattle.ir_core.specs.Spelling.IsString.{quoted}
use Rattle.ir_core.specs.Spelling.IsName.{named}
use Rattle.ir_core.specs.Spelling.Spells.{word, label, string_label, integer, negative, float, local, global, meta_name, meta_number, bang, attr_number, debug_record, string, byte_string, mark, dots}
use Rattle.ir_core.specs.declared.token.TokenKind.{TokenKind}
use Rattle.ir_core.specs.declared.token.TokenKind.TheVariants.{Word, Label, Integer, Float, Local, Global, MetaName, MetaNumber, Bang, AttrNumber, DebugRecord, Text, Bytes, Mark}
use Rattle.ir_lex.proofs.Bytes.{name-from_word, name-from_digit, word-from_digit, digit-from_begins, point-from_digit, colon-from_float, quote-from_float, name-from_mark, sigil-from_mark, float-from_digit, float-from_point}
use Rattle.ir_lex.proofs.Pieces.{prefix_stop, prefix_whole}

-- the byte behind the name bytes, 0 at the end
after_names : List ℕ → ℕ
after_names s = get_or s (prefix_len is_name_byte s) 0

-- of digits, with a point among them or not
number_kind : List ℕ → TokenKind
number_kind s = cond (list_any is_point s) Float Integer

word_kind : List ℕ → TokenKind
word_kind s = cond (pointwise nat_eq s (codes "...")) Mark Word

-- of bytes that begin with this name byte
plain_kind : ℕ → List ℕ → TokenKind
plain_kind b s = cond (eqb (after_names s) colon) Label (cond (eqb (after_names s) quote) Bytes (cond (begins_word b) (word_kind s) (number_kind s)))

bang_kind : List ℕ → TokenKind
bang_kind [] = Bang
bang_kind (b ∷ rest) = cond (is_ascii_digit b) MetaNumber MetaName

hash_kind : List ℕ → TokenKind
hash_kind rest = cond (is_ascii_digit (get_or rest 0 0)) AttrNumber DebugRecord

quote_kind : List ℕ → TokenKind
quote_kind rest = cond (eqb (prefix_len is_inside_string rest + 1) (length rest)) Text Label

sigil_kind : ℕ → List ℕ → TokenKind
sigil_kind b rest = cond (eqb b 37) Local (cond (eqb b 64) Global (cond (eqb b 33) (bang_kind rest) (cond (eqb b 35) (hash_kind rest) (cond (eqb b 34) (quote_kind rest) Mark))))

kind_of : List ℕ → TokenKind
kind_of [] = Word
kind_of (b ∷ rest) = cond (is_name_byte b) (plain_kind b (b ∷ rest)) (sigil_kind b rest)

kind_plain : (b : ℕ) (rest : List ℕ) → is_name_byte b ≡ true → kind_of (b ∷ rest) ≡ plain_kind b (b ∷ rest)
unfolding kind_of
kind_plain b rest h = cond-true (is_name_byte b) (plain_kind b (b ∷ rest)) (sigil_kind b rest) h

-- where neither a colon nor a quote follows the name bytes
plain_open : (b : ℕ) (s : List ℕ) → eqb (after_names s) colon ≡ false → eqb (after_names s) quote ≡ false → plain_kind b s ≡ cond (begins_word b) (word_kind s) (number_kind s)
unfolding plain_kind
plain_open b s nocolon noquote =
    cond-false (eqb (after_names s) colon) Label (cond (eqb (after_names s) quote) Bytes (cond (begins_word b) (word_kind s) (number_kind s))) nocolon
    ∙ cond-false (eqb (after_names s) quote) Bytes (cond (begins_word b) (word_kind s) (number_kind s)) noquote

after_all : (s : List ℕ) → AllPass is_name_byte s → after_names s ≡ 0
unfolding after_names
after_all s h = get_or_past s (prefix_len is_name_byte s) 0 (let e = prefix_whole is_name_byte s h in omega arith)

plain_all : (b : ℕ) (s : List ℕ) → AllPass is_name_byte s → plain_kind b s ≡ cond (begins_word b) (word_kind s) (number_kind s)
plain_all b s h =
    let e : after_names s ≡ 0 = after_all s h in
    plain_open b s (subst (λ x. eqb x colon ≡ false) (sym e) refl) (subst (λ x. eqb x quote ≡ false) (sym e) refl)

kind_word : (b : ℕ) (bytes : List ℕ) → begins_word b ≡ true → AllPass is_name_byte bytes → ((b ∷ bytes) ≡ codes "..." → ⊥) → kind_of (b ∷ bytes) ≡ Word
unfolding word_kind
kind_word b bytes begins h others =
    let name : is_name_byte b ≡ true = name-from_word b begins in
    let all : AllPass is_name_byte (b ∷ bytes) = All-cons (λ x. is_name_byte x ≡ true) b bytes name h in
    let test : pointwise nat_eq (b ∷ bytes) (codes "...") ≡ false = false_from_ne_true (pointwise nat_eq (b ∷ bytes) (codes "...")) (λ t. others (same_text (b ∷ bytes) (codes "...") (sym t))) in
    kind_plain b bytes name ∙ plain_all b (b ∷ bytes) all ∙ cond-true (begins_word b) (word_kind (b ∷ bytes)) (number_kind (b ∷ bytes)) begins
    ∙ cond-false (pointwise nat_eq (b ∷ bytes) (codes "...")) Mark Word test

kind_label : (s : List ℕ) → 0 < length s → AllPass is_name_byte s → kind_of (s ++ colon ∷ []) ≡ Label
unfolding plain_kind after_names
kind_label [] some h = absurd (omega arith)
kind_label (b ∷ bytes) some h =
    let name : is_name_byte b ≡ true = All-head (λ x. is_name_byte x ≡ true) b bytes h in
    let s : List ℕ = b ∷ (bytes ++ colon ∷ []) in
    let e : prefix_len is_name_byte s ≡ length (b ∷ bytes) = prefix_stop is_name_byte (b ∷ bytes) colon [] h refl in
    let at : after_names s ≡ colon = get_or_at (b ∷ bytes) colon [] 0 (prefix_len is_name_byte s) (sym e) in
    kind_plain b (bytes ++ colon ∷ []) name ∙ cond-true (eqb (after_names s) colon) Label (cond (eqb (after_names s) quote) Bytes (cond (begins_word b) (word_kind s) (number_kind s))) (eq-eqb (after_names s) colon at)

digits_names : (s : List ℕ) → AllPass is_ascii_digit s → AllPass is_name_byte s
digits_names s h = All-weaker (λ x. is_ascii_digit x ≡ true) (λ x. is_name_byte x ≡ true) name-from_digit s h

no_point : (s : List ℕ) → AllPass is_ascii_digit s → list_any is_point s ≡ false
no_point [] h = refl
no_point (b ∷ s) h = or_from (is_point b) (list_any is_point s) (point-from_digit b (All-head (λ x. is_ascii_digit x ≡ true) b s h)) (no_point s (All-tail (λ x. is_ascii_digit x ≡ true) b s h))

kind_integer : (s : List ℕ) → IsDigits s → kind_of s ≡ Integer
unfolding number_kind
kind_integer [] h = absurd (omega (arith, h.some))
kind_integer (b ∷ bytes) h =
    let digit : is_ascii_digit b ≡ true = All-head (λ x. is_ascii_digit x ≡ true) b bytes h.digits in
    let s : List ℕ = b ∷ bytes in
    kind_plain b bytes (name-from_digit b digit) ∙ plain_all b s (digits_names s h.digits) ∙ cond-false (begins_word b) (word_kind s) (number_kind s) (word-from_digit b digit)
    ∙ cond-false (list_any is_point s) Float Integer (no_point s h.digits)

kind_negative : (s : List ℕ) → IsDigits s → kind_of (minus ∷ s) ≡ Integer
unfolding number_kind
kind_negative s h =
    let all : AllPass is_name_byte (minus ∷ s) = All-cons (λ x. is_name_byte x ≡ true) minus s refl (digits_names s h.digits) in
    kind_plain minus s refl ∙ plain_all minus (minus ∷ s) all ∙ cond-false (list_any is_point (minus ∷ s)) Float Integer (no_point s h.digits)

-- among bytes of a float is neither a colon nor a quote
float_at : (s : List ℕ) (i : ℕ) → AllPass is_float_byte s → (eqb (get_or s i 0) colon ≡ false) × (eqb (get_or s i 0) quote ≡ false)
float_at s i h =
    elim (cases_lt i (length s)) [
      | inl inside ↦ (colon-from_float (get_or s i 0) (h i 0 inside), quote-from_float (get_or s i 0) (h i 0 inside))
      | inr past ↦ let e : get_or s i 0 ≡ 0 = get_or_past s i 0 past in (subst (λ x. eqb x colon ≡ false) (sym e) refl, subst (λ x. eqb x quote ≡ false) (sym e) refl)
    ]

some_point : (digits : List ℕ) (b : ℕ) (bytes : List ℕ) → is_point b ≡ true → list_any is_point (digits ++ b ∷ bytes) ≡ true
some_point [] b bytes h = subst (λ x. (x || list_any is_point bytes) ≡ true) (sym h) refl
some_point (d ∷ digits) b bytes h = or_right (is_point d) (list_any is_point (digits ++ b ∷ bytes)) (some_point digits b bytes h)

kind_float : (digits : List ℕ) (b : ℕ) (bytes : List ℕ) → IsDigits digits → is_point b ≡ true → AllPass is_float_byte bytes → kind_of (digits ++ b ∷ bytes) ≡ Float
unfolding number_kind after_names
kind_float [] b bytes ds point h = absurd (omega (arith, ds.some))
kind_float (d ∷ digits) b bytes ds point h =
    let digit : is_ascii_digit d ≡ true = All-head (λ x. is_ascii_digit x ≡ true) d digits ds.digits in
    let s : List ℕ = d ∷ (digits ++ b ∷ bytes) in
    let all : AllPass is_float_byte s =
    All-append (λ x. is_float_byte x ≡ true) (d ∷ digits) (b ∷ bytes) (All-weaker (λ x. is_ascii_digit x ≡ true) (λ x. is_float_byte x ≡ true) float-from_digit (d ∷ digits) ds.digits)
    (All-cons (λ x. is_float_byte x ≡ true) b bytes (float-from_point b point) h) in
    let next = float_at s (prefix_len is_name_byte s) all in
    kind_plain d (digits ++ b ∷ bytes) (name-from_digit d digit) ∙ plain_open d s next.0 next.1 ∙ cond-false (begins_word d) (word_kind s) (number_kind s) (word-from_digit d digit)
    ∙ cond-true (list_any is_point s) Float Integer (some_point (d ∷ digits) b bytes point)

kind_sigil : (b : ℕ) (rest : List ℕ) → is_name_byte b ≡ false → kind_of (b ∷ rest) ≡ sigil_kind b rest
unfolding kind_of
kind_sigil b rest h = cond-false (is_name_byte b) (plain_kind b (b ∷ rest)) (sigil_kind b rest) h

kind_meta_name : (s : List ℕ) → IsName s → kind_of (33 ∷ s) ≡ MetaName
unfolding kind_of sigil_kind bang_kind
kind_meta_name _ (named b bytes begins h) = cond-false (is_ascii_digit b) MetaNumber MetaName (digit-from_begins b begins)

kind_meta_number : (s : List ℕ) → IsDigits s → kind_of (33 ∷ s) ≡ MetaNumber
unfolding kind_of sigil_kind bang_kind
kind_meta_number [] h = absurd (omega (arith, h.some))
kind_meta_number (b ∷ bytes) h = cond-true (is_ascii_digit b) MetaNumber MetaName (All-head (λ x. is_ascii_digit x ≡ true) b bytes h.digits)

kind_attr_number : (s : List ℕ) → IsDigits s → kind_of (35 ∷ s) ≡ AttrNumber
unfolding kind_of sigil_kind hash_kind
kind_attr_number [] h = absurd (omega (arith, h.some))
kind_attr_number (b ∷ bytes) h = cond-true (is_ascii_digit b) AttrNumber DebugRecord (All-head (λ x. is_ascii_digit x ≡ true) b bytes h.digits)

kind_record : (s : List ℕ) → kind_of (codes "#dbg_" ++ s) ≡ DebugRecord
unfolding kind_of sigil_kind hash_kind
kind_record s = refl

kind_string : (s : List ℕ) → IsString s → kind_of s ≡ Text
unfolding kind_of sigil_kind quote_kind
kind_string _ (quoted inside h) =
    let rest : List ℕ = inside ++ quote ∷ [] in
    let n : prefix_len is_inside_string rest ≡ length inside = prefix_stop is_inside_string inside quote [] h refl in
    let size : length rest ≡ length inside + 1 = length-append inside (quote ∷ []) in
    cond-true (eqb (prefix_len is_inside_string rest + 1) (length rest)) Text Label (eq-eqb (prefix_len is_inside_string rest + 1) (length rest) (omega arith))

kind_string_label : (s : List ℕ) → IsString s → kind_of (s ++ colon ∷ []) ≡ Label
unfolding kind_of sigil_kind quote_kind
kind_string_label _ (quoted inside h) =
    let rest : List ℕ = inside ++ quote ∷ (colon ∷ []) in
    let same : (inside ++ quote ∷ []) ++ colon ∷ [] ≡ rest = append_assoc inside (quote ∷ []) (colon ∷ []) in
    let n : prefix_len is_inside_string rest ≡ length inside = prefix_stop is_inside_string inside quote (colon ∷ []) h refl in
    let size : length rest ≡ length inside + 2 = length-append inside (quote ∷ (colon ∷ [])) in
    let here : cond (eqb (prefix_len is_inside_string rest + 1) (length rest)) Text Label ≡ Label =
    cond-false (eqb (prefix_len is_inside_string rest + 1) (length rest)) Text Label (ne_eqb (prefix_len is_inside_string rest + 1) (length rest) (λ e. omega arith)) in
    subst (λ r. cond (eqb (prefix_len is_inside_string r + 1) (length r)) Text Label ≡ Label) (sym same) here

kind_byte_string : (s : List ℕ) → IsString s → kind_of (99 ∷ s) ≡ Bytes
unfolding kind_of plain_kind after_names
kind_byte_string _ (quoted inside h) = refl

kind_mark : (b : ℕ) → is_mark b ≡ true → kind_of (b ∷ []) ≡ Mark
unfolding sigil_kind
kind_mark b h =
    let none = sigil-from_mark b h in
    kind_sigil b [] (name-from_mark b h)
    ∙ cond-false (eqb b 37) Local (cond (eqb b 64) Global (cond (eqb b 33) (bang_kind []) (cond (eqb b 35) (hash_kind []) (cond (eqb b 34) (quote_kind []) Mark)))) none.0
    ∙ cond-false (eqb b 64) Global (cond (eqb b 33) (bang_kind []) (cond (eqb b 35) (hash_kind []) (cond (eqb b 34) (quote_kind []) Mark))) none.1
    ∙ cond-false (eqb b 33) (bang_kind []) (cond (eqb b 35) (hash_kind []) (cond (eqb b 34) (quote_kind []) Mark)) none.2
    ∙ cond-false (eqb b 35) (hash_kind []) (cond (eqb b 34) (quote_kind []) Mark) none.3
    ∙ cond-false (eqb b 34) (quote_kind []) Mark none.4

-- the bytes tell their kind
kind_is : (kind : TokenKind) (s : List ℕ) → Spells kind s → kind_of s ≡ kind
unfolding kind_of sigil_kind plain_kind bang_kind after_names word_kind
kind_is _ _ (word b bytes begins h others) = kind_word b bytes begins h others
kind_is _ _ (label s some h) = kind_label s some h
kind_is _ _ (string_label s h) = kind_string_label s h
kind_is _ _ (integer s h) = kind_integer s h
kind_is _ _ (negative s h) = kind_negative s h
kind_is _ _ (float digits b bytes ds point h) = kind_float digits b bytes ds point h
kind_is _ _ (local s h) = refl
kind_is _ _ (global s h) = refl
kind_is _ _ (meta_name s h) = kind_meta_name s h
kind_is _ _ (meta_number s h) = kind_meta_number s h
kind_is _ _ bang = refl
kind_is _ _ (attr_number s h) = kind_attr_number s h
kind_is _ _ (debug_record bytes h) = kind_record bytes
kind_is _ _ (string s h) = kind_string s h
kind_is _ _ (byte_string s h) = kind_byte_string s h
kind_is _ _ (mark b h) = kind_mark b h
kind_is _ _ dots = refl

-- so two kinds of the same bytes are one
pub same_kind : (j k : TokenKind) (s : List ℕ) → Spells j s → Spells k s → j ≡ k
same_kind j k s a b = sym (kind_is j s a) ∙ kind_is k s b
