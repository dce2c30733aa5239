-- What reaches over a number of bytes is spelled by them.
use Rattle.std.proofs.Common.{◌≡◌, ℕ, ◌+◌, ◌<◌, ◌≤◌, List, [], ◌∷◌, ◌++◌, true, false, cond, eqb, ltb, length, get_or, take, arith, sym, ◌∙◌, ap, subst, suc, inl, inr, max}
use Rattle.std.specs.List.{prefix_len}
use Rattle.std.specs.Char.{is_ascii_digit}
use Rattle.std.proofs.lemmas.Bool.{cond-true, cond-false, cases_Bool, cases_lt, ltb-true, eqb-true}
use Rattle.std.proofs.lemmas.Bool.Decides.{nat_tests}
use Rattle.std.proofs.lemmas.List.{take_more}
use Rattle.std.proofs.lemmas.List.Folds.{length-prefix_len}
use Rattle.std.proofs.lemmas.List.Sums.{prefix_len_stops, prefix_len-le-length}
use Rattle.ir_core.specs.Spelling.{IsDigits, IsString, IsName, IsReference, is_name_byte, begins_name, is_inside_string, quote}
use Rattle.ir_core.specs.Spelling.IsString.{quoted}
use Rattle.ir_lex.specs.Reach.{behind, grown, digits_reach, closed, quoted_reach, named_reach, reference_reach}
use Rattle.ir_lex.proofs.Bytes.{name-from_begins}
use Rattle.ir_lex.proofs.Pieces.{front_passes, prefix_cons}

-- where there are any, these are so many bytes of the text, and they are such
abbrev pub Reaches : (List ℕ → Type 0) → ℕ → List ℕ → Type 0
Reaches P n text = 0 < n → (n ≤ length text) × P (take n text)

pub reaches_weaker : (P Q : List ℕ → Type 0) → ((s : List ℕ) → P s → Q s) → (n : ℕ) (text : List ℕ) → Reaches P n text → Reaches Q n text
reaches_weaker P Q weaker n text h some = ((h some).0, weaker (take n text) (h some).1)

-- the longer of two
pub reaches_max : (P : List ℕ → Type 0) (m n : ℕ) (text : List ℕ) → Reaches P m text → Reaches P n text → Reaches P (max m n) text
reaches_max P m n text f g =
    elim (cases_lt m n) [
      | inl less ↦ let e : n ≡ max m n = omega arith in subst (λ k. Reaches P k text) e g
      | inr more ↦ let e : m ≡ max m n = omega arith in subst (λ k. Reaches P k text) e f
    ]

-- nothing reaches over no bytes
pub reaches_none : (P : List ℕ → Type 0) (n : ℕ) (text : List ℕ) → n ≡ 0 → Reaches P n text
reaches_none P n text e some = absurd (omega arith)

pub behind_yes : (c b : ℕ) (rest : List ℕ) → eqb b c ≡ true → behind c (b ∷ rest) ≡ rest
behind_yes c b rest h = cond-true (eqb b c) rest [] h

behind_no : (c b : ℕ) (rest : List ℕ) → eqb b c ≡ false → behind c (b ∷ rest) ≡ []
behind_no c b rest h = cond-false (eqb b c) rest [] h

behind_nil : (c : ℕ) → behind c [] ≡ []
behind_nil c = elim (cases_Bool (eqb 0 c)) [ inl yes' ↦ cond-true (eqb 0 c) [] [] yes' | inr no' ↦ cond-false (eqb 0 c) [] [] no' ]

pub grown_yes : (n : ℕ) → 0 < n → grown n ≡ n + 1
grown_yes n h = grind (arith, nat_tests)

pub grown_some : (n : ℕ) → 0 < grown n → 0 < n
grown_some n h = grind (arith, nat_tests)

-- a byte and what is behind it
abbrev pub Follows : ℕ → (List ℕ → Type 0) → List ℕ → Type 0
Follows c P s = (bytes : List ℕ) × (s ≡ c ∷ bytes) × P bytes

grown_here : (c : ℕ) (P : List ℕ → Type 0) (n b : ℕ) (rest : List ℕ) → eqb b c ≡ true → Reaches P n rest → Reaches (Follows c P) (grown n) (b ∷ rest)
grown_here c P n b rest same h some =
    let more : 0 < n = grown_some n some in
    let e : grown n ≡ suc n = grown_yes n more ∙ omega arith in
    let found = h more in
    subst (λ m. (m ≤ suc (length rest)) × Follows c P (take m (b ∷ rest))) (sym e)
    (omega (arith, found.0), (take n rest, ap (λ x. x ∷ take n rest) (eqb-true b c same), found.1))

pub behind_sound : (c : ℕ) (P : List ℕ → Type 0) (f : List ℕ → ℕ) → ((rest : List ℕ) → Reaches P (f rest) rest) → (text : List ℕ) → Reaches (Follows c P) (grown (f (behind c text))) text
behind_sound c P f sound [] =
    λ some. let more : 0 < f [] = subst (λ r. 0 < f r) (behind_nil c) (grown_some (f (behind c [])) some) in
    absurd (omega (arith, (sound [] more).0))
behind_sound c P f sound (b ∷ rest) =
    elim (cases_Bool (eqb b c)) [
      | inl same ↦ subst (λ r. Reaches (Follows c P) (grown (f r)) (b ∷ rest)) (sym (behind_yes c b rest same)) (grown_here c P (f rest) b rest same (sound rest))
      | inr other ↦ subst (λ r. Reaches (Follows c P) (grown (f r)) (b ∷ rest)) (sym (behind_no c b rest other)) (λ some. let more : 0 < f [] = grown_some (f []) some in absurd (omega (arith, (sound [] more).0)))
    ]

pub digits_sound : (text : List ℕ) → Reaches IsDigits (digits_reach text) text
unfolding digits_reach
digits_sound text some = (
  prefix_len-le-length is_ascii_digit text,
  record { some = omega (arith, length-prefix_len is_ascii_digit text); digits = front_passes is_ascii_digit text },
)

ends_string : (b : ℕ) → is_inside_string b ≡ false → b ≡ quote
ends_string b h = grind (arith, nat_tests)

closed_sound : (b : ℕ) (rest : List ℕ) → b ≡ quote → Reaches IsString (closed (prefix_len is_inside_string rest) rest) (b ∷ rest)
closed_sound b rest isq =
    let n : ℕ = prefix_len is_inside_string rest in
    elim (cases_Bool (ltb n (length rest))) [
      | inl less ↦
          let below : n < length rest = ltb-true n (length rest) less in
          let e : closed n rest ≡ suc (suc n) = cond-true (ltb n (length rest)) (n + 2) 0 less ∙ omega arith in
          let last : get_or rest n 0 ≡ quote = ends_string (get_or rest n 0) (prefix_len_stops is_inside_string rest 0 below) in
          let one : suc n ≡ n + 1 = omega arith in
          let inner : take (suc n) rest ≡ take n rest ++ quote ∷ [] = ap (λ k. take k rest) one ∙ take_more rest n 0 below ∙ ap (λ x. take n rest ++ x ∷ []) last in
          let whole : quote ∷ (take n rest ++ quote ∷ []) ≡ take (suc (suc n)) (b ∷ rest) = ap (λ x. quote ∷ x) (sym inner) ∙ ap (λ x. x ∷ take (suc n) rest) (sym isq) in
          λ some. subst (λ m. (m ≤ suc (length rest)) × IsString (take m (b ∷ rest))) (sym e) (omega arith, subst IsString whole (quoted (take n rest) (front_passes is_inside_string rest)))
      | inr past ↦ reaches_none IsString (closed n rest) (b ∷ rest) (cond-false (ltb n (length rest)) (n + 2) 0 past)
    ]

pub quoted_sound : (text : List ℕ) → Reaches IsString (quoted_reach text) text
unfolding quoted_reach
quoted_sound [] = λ some. absurd (omega arith)
quoted_sound (b ∷ rest) =
    elim (cases_Bool (eqb b quote)) [
      | inl same ↦ subst (λ r. Reaches IsString (closed (prefix_len is_inside_string r) r) (b ∷ rest)) (sym (behind_yes quote b rest same)) (closed_sound b rest (eqb-true b quote same))
      | inr other ↦ subst (λ r. Reaches IsString (closed (prefix_len is_inside_string r) r) (b ∷ rest)) (sym (behind_no quote b rest other)) (λ some. absurd (omega arith))
    ]

pub named_sound : (text : List ℕ) → Reaches IsName (named_reach text) text
unfolding named_reach
named_sound [] = λ some. absurd (omega arith)
named_sound (b ∷ rest) =
    elim (cases_Bool (begins_name b)) [
      | inl begins ↦
          let n : ℕ = prefix_len is_name_byte rest in
          let e : cond (begins_name b) (prefix_len is_name_byte (b ∷ rest)) 0 ≡ suc n = cond-true (begins_name b) (prefix_len is_name_byte (b ∷ rest)) 0 begins ∙ prefix_cons is_name_byte b rest (name-from_begins b begins) in
          λ some. subst (λ m. (m ≤ suc (length rest)) × IsName (take m (b ∷ rest))) (sym e) (omega (arith, prefix_len-le-length is_name_byte rest), IsName.named b (take n rest) begins (front_passes is_name_byte rest))
      | inr other ↦ reaches_none IsName (cond (begins_name b) (prefix_len is_name_byte (b ∷ rest)) 0) (b ∷ rest) (cond-false (begins_name b) (prefix_len is_name_byte (b ∷ rest)) 0 other)
    ]

pub reference_sound : (text : List ℕ) → Reaches IsReference (reference_reach text) text
unfolding reference_reach
reference_sound text =
    reaches_max IsReference (digits_reach text) (max (quoted_reach text) (named_reach text)) text
    (reaches_weaker IsDigits IsReference IsReference.by_number (digits_reach text) text (digits_sound text))
    (reaches_max IsReference (quoted_reach text) (named_reach text) text
    (reaches_weaker IsString IsReference IsReference.by_string (quoted_reach text) text (quoted_sound text))
    (reaches_weaker IsName IsReference IsReference.by_name (named_reach text) text (named_sound text)))
