-- Where bytes that spell a token stand at the front, some kind reaches over them all.
use Rattle.std.proofs.Common.{◌≡◌, ℕ, ◌+◌, ◌<◌, ◌≤◌, List, [], ◌∷◌, ◌++◌, Bool, true, not, cond, eqb, ltb, length, get_or, drop, arith, refl, sym, ◌∙◌, ap, subst, suc, inl, inr, append_assoc, ◌&&◌, length-append, eq-eqb}
use Rattle.std.specs.Prelude.{nat_eq, codes}
use Rattle.std.specs.List.{prefix_len, AllPass, starts_with}
use Rattle.std.specs.Char.{is_ascii_digit}
use Rattle.std.proofs.lemmas.Bool.{cond-true, cond-false, cases_Bool, lt-ltb, eqb-true, and_parts, and_from, not_from_false}
use Rattle.std.proofs.lemmas.Bool.Decides.{nat_tests}
use Rattle.std.proofs.lemmas.List.{get_or_at, drop_at, length_push}
use Rattle.std.proofs.lemmas.List.Elements.{All-cons}
use Rattle.ir_core.specs.Spelling.{Spells, IsDigits, IsString, IsName, IsReference, is_name_byte, begins_name, begins_word, is_record_byte, is_inside_string, is_float_byte, is_point, is_mark, colon, minus, quote}
use Rattle.ir_core.specs.Spelling.IsString.{quoted}
use Rattle.ir_core.specs.Spelling.IsName.{named}
use Rattle.ir_core.specs.Spelling.IsReference.{by_number, by_string, by_name}
use Rattle.ir_core.specs.Spelling.Spells.{word, label, string_label, integer, negative, float, local, global, meta_name, meta_number, bang, attr_number, debug_record, string, byte_string, mark, dots}
use Rattle.ir_core.specs.declared.token.TokenKind.{TokenKind}
use Rattle.ir_core.specs.declared.token.TokenKind.TheVariants.{Word, Label, Integer, Float, Local, Global, MetaName, MetaNumber, Bang, AttrNumber, DebugRecord, Text, Bytes, Mark}
use Rattle.ir_lex.specs.Reach.{behind, grown, with_colon, digits_reach, closed, quoted_reach, named_reach, reference_reach, word_reach, label_reach, integer_reach, pointed, float_reach, record_reach, bang_reach, mark_reach, is_dots, reach}
use Rattle.ir_lex.proofs.Bytes.{name-from_word, name-from_begins, digit-from_point}
use Rattle.ir_lex.proofs.Pieces.{prefix_all, prefix_stop}
use Rattle.ir_lex.proofs.Sound.{behind_yes}

-- such bytes are some, and it reaches over them, whatever follows
abbrev Covers : (List ℕ → Type 0) → (List ℕ → ℕ) → Type 0
Covers P f = (s t : List ℕ) → P s → (0 < length s) × (length s ≤ f (s ++ t))

digits_cover : Covers IsDigits digits_reach
unfolding digits_reach
digits_cover s t h = (h.some, prefix_all is_ascii_digit s t h.digits)

-- a string ends where it ends
pub quoted_exact : (s t : List ℕ) → IsString s → quoted_reach (s ++ t) ≡ length s
unfolding quoted_reach
quoted_exact _ t (quoted inside h) =
    let rest : List ℕ = inside ++ quote ∷ t in
    let n : prefix_len is_inside_string rest ≡ length inside = prefix_stop is_inside_string inside quote t h refl in
    let size : length rest ≡ length inside + suc (length t) = length-append inside (quote ∷ t) in
    let below : prefix_len is_inside_string rest < length rest = omega arith in
    let here : closed (prefix_len is_inside_string rest) rest ≡ prefix_len is_inside_string rest + 2 = cond-true (ltb (prefix_len is_inside_string rest) (length rest)) (prefix_len is_inside_string rest + 2) 0 (lt-ltb (prefix_len is_inside_string rest) (length rest) below) in
    let own : length (inside ++ quote ∷ []) ≡ length inside + 1 = length-append inside (quote ∷ []) in
    let total : closed (prefix_len is_inside_string rest) rest ≡ suc (length (inside ++ quote ∷ [])) = omega arith in
    subst (λ r. closed (prefix_len is_inside_string r) r ≡ suc (length (inside ++ quote ∷ []))) (sym (append_assoc inside (quote ∷ []) t)) total

string_some : (s : List ℕ) → IsString s → 0 < length s
string_some _ (quoted inside h) = omega arith

quoted_cover : Covers IsString quoted_reach
quoted_cover s t h = (string_some s h, (let e = quoted_exact s t h in omega arith))

named_cover : Covers IsName named_reach
unfolding named_reach
named_cover _ t (named b bytes begins h) =
    let all : suc (length bytes) ≤ prefix_len is_name_byte (b ∷ (bytes ++ t)) = prefix_all is_name_byte (b ∷ bytes) t (All-cons (λ x. is_name_byte x ≡ true) b bytes (name-from_begins b begins) h) in
    let e = cond-true (begins_name b) (prefix_len is_name_byte (b ∷ (bytes ++ t))) 0 begins in
    (omega arith, omega arith)

reference_cover : Covers IsReference reference_reach
unfolding reference_reach
reference_cover _ t (by_number s h) = let c = digits_cover s t h in (c.0, omega (arith, c.1))
reference_cover _ t (by_string s h) = let c = quoted_cover s t h in (c.0, omega (arith, c.1))
reference_cover _ t (by_name s h) = let c = named_cover s t h in (c.0, omega (arith, c.1))

grown_more : (m n : ℕ) → 0 < m → m ≤ n → suc m ≤ grown n
grown_more m n some le = grind (arith, nat_tests)

follows_cover : (c : ℕ) (P : List ℕ → Type 0) (f : List ℕ → ℕ) → Covers P f → (s t : List ℕ) → P s → suc (length s) ≤ grown (f (behind c (c ∷ (s ++ t))))
follows_cover c P f cover s t h =
    let found = cover s t h in
    subst (λ r. suc (length s) ≤ grown (f r)) (sym (behind_yes c c (s ++ t) (eq-eqb c c refl))) (grown_more (length s) (f (s ++ t)) found.0 found.1)

-- some kind reaches over these bytes at the front of this text
abbrev pub IsReached : List ℕ → List ℕ → Type 0
IsReached s text = (kind : TokenKind) × (length s ≤ reach kind (prefix_len is_name_byte text) text)

word_reached : (b : ℕ) (bytes t : List ℕ) → begins_word b ≡ true → AllPass is_name_byte bytes → IsReached (b ∷ bytes) (b ∷ (bytes ++ t))
unfolding word_reach mark_reach
word_reached b bytes t begins h =
    let text : List ℕ = b ∷ (bytes ++ t) in
    let names : ℕ = prefix_len is_name_byte text in
    let all : suc (length bytes) ≤ names = prefix_all is_name_byte (b ∷ bytes) t (All-cons (λ x. is_name_byte x ≡ true) b bytes (name-from_word b begins) h) in
    elim (cases_Bool (is_dots names text)) [
      | inl alone ↦
          let parts = and_parts (eqb names 3) (starts_with nat_eq text (codes "...")) alone in
          let three : names ≡ 3 = eqb-true names 3 parts.0 in
          let e : mark_reach text ≡ 3 = cond-true (starts_with nat_eq text (codes "...")) 3 (cond (is_mark b) 1 0) parts.1 in
          (Mark, omega arith)
      | inr other ↦
          let test : (begins_word b && not (is_dots names text)) ≡ true = and_from (begins_word b) (not (is_dots names text)) begins (not_from_false (is_dots names text) other) in
          let e : word_reach names text ≡ names = cond-true (begins_word b && not (is_dots names text)) names 0 test in
          (Word, omega arith)
    ]

colon_more : (s t : List ℕ) (n : ℕ) → n ≡ length s → 0 < length s → suc (length s) ≤ with_colon n (s ++ colon ∷ t)
colon_more s t n e some =
    let at : get_or (s ++ colon ∷ t) n 0 ≡ colon = get_or_at s colon t 0 n (sym e) in
    let test : (ltb 0 n && eqb (get_or (s ++ colon ∷ t) n 0) colon) ≡ true = and_from (ltb 0 n) (eqb (get_or (s ++ colon ∷ t) n 0) colon) (lt-ltb 0 n (omega arith)) (eq-eqb (get_or (s ++ colon ∷ t) n 0) colon at) in
    let f : with_colon n (s ++ colon ∷ t) ≡ n + 1 = cond-true (ltb 0 n && eqb (get_or (s ++ colon ∷ t) n 0) colon) (n + 1) 0 test in
    omega arith

label_here : (s t : List ℕ) → 0 < length s → AllPass is_name_byte s → suc (length s) ≤ label_reach (prefix_len is_name_byte (s ++ colon ∷ t)) (s ++ colon ∷ t)
unfolding label_reach
label_here s t some h =
    let e : prefix_len is_name_byte (s ++ colon ∷ t) ≡ length s = prefix_stop is_name_byte s colon t h refl in
    let more = colon_more s t (prefix_len is_name_byte (s ++ colon ∷ t)) e some in
    omega arith

string_label_here : (s t : List ℕ) → IsString s → suc (length s) ≤ label_reach (prefix_len is_name_byte (s ++ colon ∷ t)) (s ++ colon ∷ t)
unfolding label_reach
string_label_here s t h =
    let more = colon_more s t (quoted_reach (s ++ colon ∷ t)) (quoted_exact s (colon ∷ t) h) (string_some s h) in
    omega arith

label_reached : (s t : List ℕ) → suc (length s) ≤ label_reach (prefix_len is_name_byte (s ++ colon ∷ t)) (s ++ colon ∷ t) → IsReached (s ++ colon ∷ []) ((s ++ colon ∷ []) ++ t)
label_reached s t h =
    let size : suc (length s) ≡ length (s ++ colon ∷ []) = omega (arith, length_push s colon) in
    let here : length (s ++ colon ∷ []) ≤ label_reach (prefix_len is_name_byte (s ++ colon ∷ t)) (s ++ colon ∷ t) = omega arith in
    (Label, subst (λ x. length (s ++ colon ∷ []) ≤ label_reach (prefix_len is_name_byte x) x) (sym (append_assoc s (colon ∷ []) t)) here)

float_here : (digits : List ℕ) (b : ℕ) (bytes t : List ℕ) → IsDigits digits → is_point b ≡ true → AllPass is_float_byte bytes → length digits + suc (length bytes) ≤ float_reach (digits ++ b ∷ (bytes ++ t))
unfolding float_reach digits_reach
float_here digits b bytes t ds point h =
    let text : List ℕ = digits ++ b ∷ (bytes ++ t) in
    let n : ℕ = prefix_len is_ascii_digit text in
    let e : n ≡ length digits = prefix_stop is_ascii_digit digits b (bytes ++ t) ds.digits (digit-from_point b point) in
    let at : get_or text n 0 ≡ b = get_or_at digits b (bytes ++ t) 0 n (sym e) in
    let some : ltb 0 n ≡ true = lt-ltb 0 n (omega (arith, ds.some)) in
    let test : (ltb 0 n && is_point (get_or text n 0)) ≡ true = and_from (ltb 0 n) (is_point (get_or text n 0)) some (subst (λ x. is_point x ≡ true) (sym at) point) in
    let f : pointed n text ≡ n + 1 + prefix_len is_float_byte (drop (n + 1) text) = cond-true (ltb 0 n && is_point (get_or text n 0)) (n + 1 + prefix_len is_float_byte (drop (n + 1) text)) 0 test in
    let regroup : text ≡ (digits ++ b ∷ []) ++ (bytes ++ t) = sym (append_assoc digits (b ∷ []) (bytes ++ t)) in
    let size : length (digits ++ b ∷ []) ≡ n + 1 = length_push digits b ∙ ap (λ k. k + 1) (sym e) in
    let rest : drop (n + 1) text ≡ bytes ++ t = ap (drop (n + 1)) regroup ∙ drop_at (digits ++ b ∷ []) (bytes ++ t) (n + 1) size in
    let more : length bytes ≤ prefix_len is_float_byte (drop (n + 1) text) = subst (λ r. length bytes ≤ prefix_len is_float_byte r) (sym rest) (prefix_all is_float_byte bytes t h) in
    omega arith

float_reached : (digits : List ℕ) (b : ℕ) (bytes t : List ℕ) → IsDigits digits → is_point b ≡ true → AllPass is_float_byte bytes → IsReached (digits ++ b ∷ bytes) ((digits ++ b ∷ bytes) ++ t)
float_reached digits b bytes t ds point h =
    let here = float_here digits b bytes t ds point h in
    let size : length (digits ++ b ∷ bytes) ≡ length digits + suc (length bytes) = length-append digits (b ∷ bytes) in
    (Float, subst (λ x. length (digits ++ b ∷ bytes) ≤ float_reach x) (sym (append_assoc digits (b ∷ bytes) t)) (omega arith))

record_reached : (bytes t : List ℕ) → AllPass is_record_byte bytes → IsReached (codes "#dbg_" ++ bytes) ((codes "#dbg_" ++ bytes) ++ t)
unfolding record_reach
record_reached bytes t h =
    let e : record_reach ((codes "#dbg_" ++ bytes) ++ t) ≡ 5 + prefix_len is_record_byte (bytes ++ t) = refl in
    let more : length bytes ≤ prefix_len is_record_byte (bytes ++ t) = prefix_all is_record_byte bytes t h in
    (DebugRecord, omega arith)

mark_some : (b : ℕ) (t : List ℕ) → is_mark b ≡ true → 1 ≤ mark_reach (b ∷ t)
unfolding mark_reach
mark_some b t h =
    let test : Bool = starts_with nat_eq (b ∷ t) (codes "...") in
    let single : ℕ = cond (is_mark b) 1 0 in
    elim (cases_Bool test) [
      | inl passed ↦ subst (λ k. 1 ≤ k) (sym (cond-true test 3 single passed)) (omega arith)
      | inr failed ↦ subst (λ k. 1 ≤ k) (sym (cond-false test 3 single failed ∙ cond-true (is_mark b) 1 0 h)) (omega arith)
    ]

mark_reached : (b : ℕ) (t : List ℕ) → is_mark b ≡ true → IsReached (b ∷ []) (b ∷ t)
mark_reached b t h = (Mark, mark_some b t h)

dots_reached : (t : List ℕ) → IsReached (codes "...") (codes "..." ++ t)
unfolding mark_reach
dots_reached t = let e : mark_reach (codes "..." ++ t) ≡ 3 = refl in (Mark, omega arith)

bang_reached : (t : List ℕ) → IsReached (33 ∷ []) (33 ∷ t)
unfolding bang_reach
bang_reached t = let e : bang_reach (33 ∷ t) ≡ 1 = refl in (Bang, omega arith)

integer_reached : (s t : List ℕ) → IsDigits s → IsReached s (s ++ t)
unfolding integer_reach
integer_reached s t h = let c = digits_cover s t h in (Integer, omega (arith, c.1))

negative_reached : (s t : List ℕ) → IsDigits s → IsReached (minus ∷ s) (minus ∷ (s ++ t))
unfolding integer_reach
negative_reached s t h = let c = follows_cover minus IsDigits digits_reach digits_cover s t h in (Integer, omega arith)

-- bytes that spell a token are reached
pub reach_covers : (kind : TokenKind) (s t : List ℕ) → Spells kind s → IsReached s (s ++ t)
reach_covers _ _ t (word b bytes begins h others) = word_reached b bytes t begins h
reach_covers _ _ t (label s some h) = label_reached s t (label_here s t some h)
reach_covers _ _ t (string_label s h) = label_reached s t (string_label_here s t h)
reach_covers _ _ t (integer s h) = integer_reached s t h
reach_covers _ _ t (negative s h) = negative_reached s t h
reach_covers _ _ t (float digits b bytes ds point h) = float_reached digits b bytes t ds point h
reach_covers _ _ t (local s h) = (Local, follows_cover 37 IsReference reference_reach reference_cover s t h)
reach_covers _ _ t (global s h) = (Global, follows_cover 64 IsReference reference_reach reference_cover s t h)
reach_covers _ _ t (meta_name s h) = (MetaName, follows_cover 33 IsName named_reach named_cover s t h)
reach_covers _ _ t (meta_number s h) = (MetaNumber, follows_cover 33 IsDigits digits_reach digits_cover s t h)
reach_covers _ _ t bang = bang_reached t
reach_covers _ _ t (attr_number s h) = (AttrNumber, follows_cover 35 IsDigits digits_reach digits_cover s t h)
reach_covers _ _ t (debug_record bytes h) = record_reached bytes t h
reach_covers _ _ t (string s h) = (Text, (quoted_cover s t h).1)
reach_covers _ _ t (byte_string s h) = (Bytes, follows_cover 99 IsString quoted_reach quoted_cover s t h)
reach_covers _ _ t (mark b h) = mark_reached b t h
reach_covers _ _ t dots = dots_reached t
