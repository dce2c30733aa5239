-- A kind that reaches over some bytes is spelled by them.
use Rattle.std.proofs.Common.{◌≡◌, ℕ, ◌+◌, ◌<◌, ◌≤◌, List, [], ◌∷◌, ◌++◌, Bool, true, not, cond, eqb, ltb, length, get_or, take, drop, arith, sym, ◌∙◌, ap, subst, suc, inl, inr, append_assoc, ◌&&◌}
use Rattle.std.specs.Prelude.{nat_eq, codes}
use Rattle.std.specs.List.{prefix_len, AllPass, starts_with}
use Rattle.std.proofs.lemmas.Bool.{cond-true, cond-false, cases_Bool, cases_lt, ltb-true, eqb-true, and_parts}
use Rattle.std.proofs.lemmas.List.{take_more, length-take-le, length-drop, get_or_past, length-take}
use Rattle.std.proofs.lemmas.List.Folds.{length-prefix_len}
use Rattle.std.proofs.lemmas.List.Sums.{prefix_len-le-length}
use Rattle.std.proofs.Math.Seq.{take-add}
use Rattle.std.specs.Cmp.Lexicographic.{same_text, pointwise}
use Rattle.ir_core.specs.Spelling.{Spells, IsDigits, IsString, IsName, IsReference, is_name_byte, begins_word, is_record_byte, is_float_byte, is_point, is_mark, colon, minus}
use Rattle.ir_core.specs.declared.token.TokenKind.{TokenKind}
use Rattle.ir_core.specs.declared.token.TokenKind.TheVariants.{Word, Label, Integer, Float, Local, Global, MetaName, MetaNumber, Bang, AttrNumber, DebugRecord, Text, Bytes, Mark}
use Rattle.ir_lex.specs.Reach.{behind, grown, with_colon, digits_reach, quoted_reach, named_reach, reference_reach, word_reach, label_reach, integer_reach, pointed, float_reach, record_reach, bang_reach, mark_reach, is_dots, reach}
use Rattle.ir_lex.proofs.Bytes.{name-from_word}
use Rattle.ir_lex.proofs.Pieces.{front_passes, prefix_cons}
use Rattle.ir_lex.proofs.Sound.{Reaches, Follows, reaches_weaker, reaches_max, reaches_none, behind_sound, digits_sound, quoted_sound, named_sound, reference_sound}

-- a text whose bytes up to here are `...` alone passes the test for it
dots_alone : (n : ℕ) (text : List ℕ) → n ≤ length text → take n text ≡ codes "..." → is_dots n text ≡ true
dots_alone n text inside e =
    let three : n ≡ 3 = sym (length-take-le n text inside) ∙ ap length e in
    let same : take 3 text ≡ codes "..." = ap (λ k. take k text) (sym three) ∙ e in
    ap (λ k. eqb k 3 && starts_with nat_eq text (codes "...")) three ∙ ap (λ s. pointwise nat_eq (codes "...") s) same

word_sound : (text : List ℕ) → Reaches (Spells Word) (word_reach (prefix_len is_name_byte text) text) text
unfolding word_reach
word_sound [] = λ some. absurd (omega arith)
word_sound (b ∷ rest) =
    let names : ℕ = prefix_len is_name_byte (b ∷ rest) in
    let test : Bool = begins_word b && not (is_dots names (b ∷ rest)) in
    elim (cases_Bool test) [
      | inl passed ↦
          let parts = and_parts (begins_word b) (not (is_dots names (b ∷ rest))) passed in
          let n : ℕ = prefix_len is_name_byte rest in
          let all : names ≡ suc n = prefix_cons is_name_byte b rest (name-from_word b parts.0) in
          let e : cond test names 0 ≡ suc n = cond-true test names 0 passed ∙ all in
          let inside : suc n ≤ suc (length rest) = omega (arith, prefix_len-le-length is_name_byte rest) in
          let others : (b ∷ take n rest) ≡ codes "..." → ⊥ = λ alone.
          let dots : is_dots names (b ∷ rest) ≡ true = subst (λ k. is_dots k (b ∷ rest) ≡ true) (sym all) (dots_alone (suc n) (b ∷ rest) inside alone) in
          let wrong : not true ≡ true = subst (λ d. not d ≡ true) dots parts.1 in
          cc in
          λ some. subst (λ m. (m ≤ suc (length rest)) × Spells Word (take m (b ∷ rest))) (sym e) (inside, Spells.word b (take n rest) parts.0 (front_passes is_name_byte rest) others)
      | inr failed ↦ reaches_none (Spells Word) (cond test names 0) (b ∷ rest) (cond-false test names 0 failed)
    ]

-- these bytes and a colon
abbrev Coloned : (List ℕ → Type 0) → List ℕ → Type 0
Coloned P s = (bytes : List ℕ) × (s ≡ bytes ++ colon ∷ []) × P bytes

colon_inside : (text : List ℕ) (n : ℕ) → eqb (get_or text n 0) colon ≡ true → n < length text
colon_inside text n h =
    elim (cases_lt n (length text)) [
      | inl inside ↦ inside
      | inr past ↦ let e : get_or text n 0 ≡ 0 = get_or_past text n 0 past in let f : get_or text n 0 ≡ 58 = eqb-true (get_or text n 0) colon h in absurd (omega arith)
    ]

colon_sound : (P : List ℕ → Type 0) (n : ℕ) (text : List ℕ) → Reaches P n text → Reaches (Coloned P) (with_colon n text) text
colon_sound P n text h =
    let test : Bool = ltb 0 n && eqb (get_or text n 0) colon in
    elim (cases_Bool test) [
      | inl passed ↦
          let parts = and_parts (ltb 0 n) (eqb (get_or text n 0) colon) passed in
          let more : 0 < n = ltb-true 0 n parts.0 in
          let inside : n < length text = colon_inside text n parts.1 in
          let e : with_colon n text ≡ n + 1 = cond-true test (n + 1) 0 passed in
          let bytes : take (n + 1) text ≡ take n text ++ colon ∷ [] = take_more text n 0 inside ∙ ap (λ x. take n text ++ x ∷ []) (eqb-true (get_or text n 0) colon parts.1) in
          λ some. subst (λ m. (m ≤ length text) × Coloned P (take m text)) (sym e) (omega arith, (take n text, bytes, (h more).1))
      | inr failed ↦ reaches_none (Coloned P) (with_colon n text) text (cond-false test (n + 1) 0 failed)
    ]

-- some name bytes
abbrev AreNames : List ℕ → Type 0
AreNames s = (0 < length s) × AllPass is_name_byte s

names_sound : (text : List ℕ) → Reaches AreNames (prefix_len is_name_byte text) text
names_sound text some = (prefix_len-le-length is_name_byte text, (omega (arith, length-prefix_len is_name_byte text), front_passes is_name_byte text))

label_sound : (text : List ℕ) → Reaches (Spells Label) (label_reach (prefix_len is_name_byte text) text) text
unfolding label_reach
label_sound text =
    let names : ℕ = prefix_len is_name_byte text in
    reaches_max (Spells Label) (with_colon names text) (with_colon (quoted_reach text) text) text
    (reaches_weaker (Coloned AreNames) (Spells Label) (λ s found. subst (Spells Label) (sym found.1) (Spells.label found.0 found.2.0 found.2.1)) (with_colon names text) text (colon_sound AreNames names text (names_sound text)))
    (reaches_weaker (Coloned IsString) (Spells Label) (λ s found. subst (Spells Label) (sym found.1) (Spells.string_label found.0 found.2)) (with_colon (quoted_reach text) text) text (colon_sound IsString (quoted_reach text) text (quoted_sound text)))

-- what stands behind one byte
follows_sound : (kind : TokenKind) (c : ℕ) (P : List ℕ → Type 0) (f : List ℕ → ℕ) → ((rest : List ℕ) → Reaches P (f rest) rest) → ((bytes : List ℕ) → P bytes → Spells kind (c ∷ bytes)) → (text : List ℕ) → Reaches (Spells kind) (grown (f (behind c text))) text
follows_sound kind c P f sound spells text =
    reaches_weaker (Follows c P) (Spells kind) (λ s found. subst (Spells kind) (sym found.1) (spells found.0 found.2)) (grown (f (behind c text))) text (behind_sound c P f sound text)

integer_sound : (text : List ℕ) → Reaches (Spells Integer) (integer_reach text) text
unfolding integer_reach
integer_sound text =
    reaches_max (Spells Integer) (digits_reach text) (grown (digits_reach (behind minus text))) text
    (reaches_weaker IsDigits (Spells Integer) Spells.integer (digits_reach text) text (digits_sound text))
    (follows_sound Integer minus IsDigits digits_reach digits_sound Spells.negative text)

point_inside : (text : List ℕ) (n : ℕ) → is_point (get_or text n 0) ≡ true → n < length text
point_inside text n h =
    elim (cases_lt n (length text)) [
      | inl inside ↦ inside
      | inr past ↦ let e : is_point 0 ≡ true = subst (λ b. is_point b ≡ true) (get_or_past text n 0 past) h in cc
    ]

float_sound : (text : List ℕ) → Reaches (Spells Float) (float_reach text) text
unfolding float_reach
float_sound text =
    let n : ℕ = digits_reach text in
    let m : ℕ = prefix_len is_float_byte (drop (n + 1) text) in
    let test : Bool = ltb 0 n && is_point (get_or text n 0) in
    elim (cases_Bool test) [
      | inl passed ↦
          let parts = and_parts (ltb 0 n) (is_point (get_or text n 0)) passed in
          let more : 0 < n = ltb-true 0 n parts.0 in
          let inside : n < length text = point_inside text n parts.1 in
          let e : pointed n text ≡ n + 1 + m = cond-true test (n + 1 + m) 0 passed in
          let short : n + 1 + m ≤ length text = omega (arith, prefix_len-le-length is_float_byte (drop (n + 1) text), length-drop (n + 1) text) in
          let bytes : take n text ++ get_or text n 0 ∷ take m (drop (n + 1) text) ≡ take (n + 1 + m) text =
          sym (append_assoc (take n text) (get_or text n 0 ∷ []) (take m (drop (n + 1) text)))
          ∙ ap (λ s. s ++ take m (drop (n + 1) text)) (sym (take_more text n 0 inside)) ∙ sym (take-add (n + 1) m text) in
          λ some. subst (λ k. (k ≤ length text) × Spells Float (take k text)) (sym e)
          (short, subst (Spells Float) bytes (Spells.float (take n text) (get_or text n 0) (take m (drop (n + 1) text)) ((digits_sound text more).1) parts.1 (front_passes is_float_byte (drop (n + 1) text))))
      | inr failed ↦ reaches_none (Spells Float) (pointed n text) text (cond-false test (n + 1 + m) 0 failed)
    ]

bang_sound : (text : List ℕ) → Reaches (Spells Bang) (bang_reach text) text
unfolding bang_reach
bang_sound [] = λ some. absurd (omega arith)
bang_sound (b ∷ rest) =
    elim (cases_Bool (eqb b 33)) [
      | inl same ↦ λ some. subst (λ k. (k ≤ suc (length rest)) × Spells Bang (take k (b ∷ rest))) (sym (cond-true (eqb b 33) 1 0 same)) (omega arith, subst (λ x. Spells Bang (x ∷ [])) (sym (eqb-true b 33 same)) Spells.bang)
      | inr other ↦ reaches_none (Spells Bang) (cond (eqb b 33) 1 0) (b ∷ rest) (cond-false (eqb b 33) 1 0 other)
    ]

-- the bytes that a text starts with
starts_same : (text word : List ℕ) → starts_with nat_eq text word ≡ true → take (length word) text ≡ word
starts_same text word h = sym (same_text word (take (length word) text) (sym h))

starts_inside : (text word : List ℕ) → starts_with nat_eq text word ≡ true → length word ≤ length text
starts_inside text word h = omega (arith, length-take (length word) text, ap length (starts_same text word h))

record_sound : (text : List ℕ) → Reaches (Spells DebugRecord) (record_reach text) text
unfolding record_reach
record_sound text =
    let test : Bool = starts_with nat_eq text (codes "#dbg_") in
    let m : ℕ = prefix_len is_record_byte (drop 5 text) in
    elim (cases_Bool test) [
      | inl passed ↦
          let e : cond test (5 + m) 0 ≡ 5 + m = cond-true test (5 + m) 0 passed in
          let long : 5 ≤ length text = starts_inside text (codes "#dbg_") passed in
          let short : 5 + m ≤ length text = omega (arith, prefix_len-le-length is_record_byte (drop 5 text), length-drop 5 text) in
          let bytes : codes "#dbg_" ++ take m (drop 5 text) ≡ take (5 + m) text = ap (λ s. s ++ take m (drop 5 text)) (sym (starts_same text (codes "#dbg_") passed)) ∙ sym (take-add 5 m text) in
          λ some. subst (λ k. (k ≤ length text) × Spells DebugRecord (take k text)) (sym e) (short, subst (Spells DebugRecord) bytes (Spells.debug_record (take m (drop 5 text)) (front_passes is_record_byte (drop 5 text))))
      | inr failed ↦ reaches_none (Spells DebugRecord) (cond test (5 + m) 0) text (cond-false test (5 + m) 0 failed)
    ]

mark_alone : (text : List ℕ) → Reaches (Spells Mark) (cond (is_mark (get_or text 0 0)) 1 0) text
mark_alone [] = λ some. absurd (omega arith)
mark_alone (b ∷ rest) =
    elim (cases_Bool (is_mark b)) [
      | inl passed ↦ λ some. subst (λ k. (k ≤ suc (length rest)) × Spells Mark (take k (b ∷ rest))) (sym (cond-true (is_mark b) 1 0 passed)) (omega arith, Spells.mark b passed)
      | inr failed ↦ reaches_none (Spells Mark) (cond (is_mark b) 1 0) (b ∷ rest) (cond-false (is_mark b) 1 0 failed)
    ]

mark_sound : (text : List ℕ) → Reaches (Spells Mark) (mark_reach text) text
unfolding mark_reach
mark_sound text =
    let test : Bool = starts_with nat_eq text (codes "...") in
    let single : ℕ = cond (is_mark (get_or text 0 0)) 1 0 in
    elim (cases_Bool test) [
      | inl passed ↦ λ some. subst (λ k. (k ≤ length text) × Spells Mark (take k text)) (sym (cond-true test 3 single passed)) (starts_inside text (codes "...") passed, subst (Spells Mark) (sym (starts_same text (codes "...") passed)) Spells.dots)
      | inr failed ↦ subst (λ k. Reaches (Spells Mark) k text) (sym (cond-false test 3 single failed)) (mark_alone text)
    ]

-- each kind is sound
pub reach_sound : (kind : TokenKind) (text : List ℕ) → Reaches (Spells kind) (reach kind (prefix_len is_name_byte text) text) text
reach_sound Word text = word_sound text
reach_sound Label text = label_sound text
reach_sound Integer text = integer_sound text
reach_sound Float text = float_sound text
reach_sound Local text = follows_sound Local 37 IsReference reference_reach reference_sound Spells.local text
reach_sound Global text = follows_sound Global 64 IsReference reference_reach reference_sound Spells.global text
reach_sound MetaName text = follows_sound MetaName 33 IsName named_reach named_sound Spells.meta_name text
reach_sound MetaNumber text = follows_sound MetaNumber 33 IsDigits digits_reach digits_sound Spells.meta_number text
reach_sound Bang text = bang_sound text
reach_sound AttrNumber text = follows_sound AttrNumber 35 IsDigits digits_reach digits_sound Spells.attr_number text
reach_sound DebugRecord text = record_sound text
reach_sound Text text = reaches_weaker IsString (Spells Text) Spells.string (quoted_reach text) text (quoted_sound text)
reach_sound Bytes text = follows_sound Bytes 99 IsString quoted_reach quoted_sound Spells.byte_string text
reach_sound Mark text = mark_sound text
