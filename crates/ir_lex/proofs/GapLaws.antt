-- The blanks and comments at the front: as many bytes as `gap_length` says, and no others.
use Rattle.std.proofs.Common.{◌≡◌, ℕ, ◌+◌, ◌<◌, ◌≤◌, List, [], ◌∷◌, ◌++◌, Bool, true, false, not, eqb, length, get_or, take, arith, refl, sym, ◌∙◌, ap, subst, suc, inl, inr, append_assoc, ◌||◌}
use Rattle.std.specs.List.{AllPass}
use Rattle.std.proofs.lemmas.Bool.{cond-true, cond-false, cases_Bool, eqb-true, or_parts}
use Rattle.std.proofs.lemmas.Bool.Decides.{nat_tests}
use Rattle.std.proofs.lemmas.List.{length-append}
use Rattle.std.proofs.lemmas.List.Elements.{All-head, All-tail, All-cons, All-nil}
use Rattle.ir_core.specs.Spelling.{line_feed}
use Rattle.ir_core.specs.Tokenisation.{IsGap, is_blank, is_separator, semicolon, stays_on_line}
use Rattle.ir_core.specs.Tokenisation.IsGap.{none, blank, comment}
use Rattle.ir_lex.specs.Gaps.{gap_length, goes_on}

-- the rest of a comment, and a gap
abbrev pub IsCommentRest : List ℕ → Type 0
IsCommentRest s = (words : List ℕ) × (gap : List ℕ) × (s ≡ words ++ line_feed ∷ gap) × AllPass stays_on_line words × IsGap gap

-- a gap that begins in a comment or not
abbrev pub IsGapFrom : Bool → List ℕ → Type 0
IsGapFrom true s = IsCommentRest s
IsGapFrom false s = IsGap s

blank-from_separator : (b : ℕ) → is_separator b ≡ true → eqb b semicolon ≡ false → is_blank b ≡ true
blank-from_separator b h k = grind (arith, nat_tests)

separator-from_blank : (b : ℕ) → is_blank b ≡ true → is_separator b ≡ true
separator-from_blank b h = grind (arith, nat_tests)

semicolon-from_blank : (b : ℕ) → is_blank b ≡ true → eqb b semicolon ≡ false
semicolon-from_blank b h = grind (arith, nat_tests)

stays-from_other : (b : ℕ) → eqb b line_feed ≡ false → stays_on_line b ≡ true
stays-from_other b h = grind (arith, nat_tests)

-- one more byte in front
gap_cons_comment : (b : ℕ) (s : List ℕ) → IsGapFrom (goes_on true b) s → IsGapFrom true (b ∷ s)
gap_cons_comment b s =
    elim (cases_Bool (eqb b line_feed)) [
      | inl ends ↦ λ h.
          let gap : IsGap s = subst (λ x. IsGapFrom (not x) s) ends h in
          ([], s, ap (λ x. x ∷ s) (eqb-true b line_feed ends), All-nil (λ x. stays_on_line x ≡ true), gap)
      | inr stays ↦ λ h.
          let rest : IsCommentRest s = subst (λ x. IsGapFrom (not x) s) stays h in
          (b ∷ rest.0, rest.1, ap (λ x. b ∷ x) rest.2, All-cons (λ x. stays_on_line x ≡ true) b rest.0 (stays-from_other b stays) rest.3, rest.4)
    ]

gap_cons_open : (b : ℕ) (s : List ℕ) → is_separator b ≡ true → IsGapFrom (goes_on false b) s → IsGapFrom false (b ∷ s)
gap_cons_open b s sep =
    elim (cases_Bool (eqb b semicolon)) [
      | inl begins ↦ λ h.
          let rest : IsCommentRest s = subst (λ x. IsGapFrom x s) begins h in
          let same : semicolon ∷ (rest.0 ++ line_feed ∷ rest.1) ≡ b ∷ s = ap (λ x. semicolon ∷ x) (sym rest.2) ∙ ap (λ x. x ∷ s) (sym (eqb-true b semicolon begins)) in
          subst IsGap same (comment rest.0 rest.1 rest.3 rest.4)
      | inr other ↦ λ h.
          let gap : IsGap s = subst (λ x. IsGapFrom x s) other h in
          blank b s (blank-from_separator b sep other) gap
    ]

gap_cons : (c : Bool) (b : ℕ) (s : List ℕ) → (c || is_separator b) ≡ true → IsGapFrom (goes_on c b) s → IsGapFrom c (b ∷ s)
gap_cons true b s h = gap_cons_comment b s
gap_cons false b s h = gap_cons_open b s h

gap_length_yes : (c : Bool) (b : ℕ) (text : List ℕ) → (c || is_separator b) ≡ true → gap_length c (b ∷ text) ≡ suc (gap_length (goes_on c b) text)
gap_length_yes c b text h = let e = cond-true (c || is_separator b) (1 + gap_length (goes_on c b) text) 0 h in omega arith

gap_length_no : (c : Bool) (b : ℕ) (text : List ℕ) → (c || is_separator b) ≡ false → gap_length c (b ∷ text) ≡ 0
gap_length_no c b text h = cond-false (c || is_separator b) (1 + gap_length (goes_on c b) text) 0 h

pub gap_length-le : (c : Bool) (text : List ℕ) → gap_length c text ≤ length text
gap_length-le c [] = omega arith
gap_length-le c (b ∷ text) =
    let more = gap_length-le (goes_on c b) text in
    elim (cases_Bool (c || is_separator b)) [
      | inl sep ↦ subst (λ n. n ≤ suc (length text)) (sym (gap_length_yes c b text sep)) (omega arith)
      | inr other ↦ subst (λ n. n ≤ suc (length text)) (sym (gap_length_no c b text other)) (omega arith)
    ]

-- what is at the front, where something is left: a gap, and a byte that separates nothing
abbrev pub Stops : Bool → ℕ → List ℕ → Type 0
Stops c n text = n < length text → IsGapFrom c (take n text) × (is_separator (get_or text n 0) ≡ false)

pub gap_stops : (c : Bool) (text : List ℕ) → Stops c (gap_length c text) text
gap_stops c [] = λ inside. absurd (omega arith)
gap_stops c (b ∷ text) =
    let more = gap_stops (goes_on c b) text in
    elim (cases_Bool (c || is_separator b)) [
      | inl sep ↦ subst (λ n. Stops c n (b ∷ text)) (sym (gap_length_yes c b text sep)) (λ inside. let rest = more (omega arith) in (gap_cons c b (take (gap_length (goes_on c b) text) text) sep rest.0, rest.1))
      | inr other ↦ subst (λ n. Stops c n (b ∷ text)) (sym (gap_length_no c b text other)) (λ inside. let parts = or_parts c (is_separator b) other in (subst (λ x. IsGapFrom x []) (sym parts.0) none, parts.1))
    ]

-- and where nothing is left, all of it, where the text's end ends a comment too
abbrev pub Ends : Bool → ℕ → List ℕ → Type 0
Ends c n text = length text ≤ n → IsGapFrom c (text ++ line_feed ∷ [])

ends_nil : (c : Bool) → IsGapFrom c (line_feed ∷ [])
ends_nil true = ([], [], refl, All-nil (λ x. stays_on_line x ≡ true), none)
ends_nil false = blank line_feed [] refl none

pub gap_ends : (c : Bool) (text : List ℕ) → Ends c (gap_length c text) text
gap_ends c [] = λ past. ends_nil c
gap_ends c (b ∷ text) =
    let more = gap_ends (goes_on c b) text in
    elim (cases_Bool (c || is_separator b)) [
      | inl sep ↦ subst (λ n. Ends c n (b ∷ text)) (sym (gap_length_yes c b text sep)) (λ past. gap_cons c b (text ++ line_feed ∷ []) sep (more (omega arith)))
      | inr other ↦ subst (λ n. Ends c n (b ∷ text)) (sym (gap_length_no c b text other)) (λ past. absurd (omega arith))
    ]

-- the rest of a comment is passed with its LF
comment_passed : (words rest : List ℕ) → AllPass stays_on_line words → gap_length true (words ++ line_feed ∷ rest) ≡ length words + suc (gap_length false rest)
comment_passed [] rest h = omega arith
comment_passed (b ∷ words) rest h =
    let stays : stays_on_line b ≡ true = All-head (λ x. stays_on_line x ≡ true) b words h in
    let more = comment_passed words rest (All-tail (λ x. stays_on_line x ≡ true) b words h) in
    let e : gap_length true (b ∷ (words ++ line_feed ∷ rest)) ≡ suc (gap_length true (words ++ line_feed ∷ rest)) = subst (λ x. gap_length true (b ∷ (words ++ line_feed ∷ rest)) ≡ suc (gap_length x (words ++ line_feed ∷ rest))) stays (gap_length_yes true b (words ++ line_feed ∷ rest) refl) in
    omega arith

-- a gap is passed, whatever follows
pub gap_passed : (gap rest : List ℕ) → IsGap gap → gap_length false (gap ++ rest) ≡ length gap + gap_length false rest
gap_passed _ rest none = omega arith
gap_passed _ rest (blank b gap h more) =
    let rec = gap_passed gap rest more in
    let e : gap_length false (b ∷ (gap ++ rest)) ≡ suc (gap_length false (gap ++ rest)) = subst (λ x. gap_length false (b ∷ (gap ++ rest)) ≡ suc (gap_length x (gap ++ rest))) (semicolon-from_blank b h) (gap_length_yes false b (gap ++ rest) (separator-from_blank b h)) in
    omega arith
gap_passed _ rest (comment words gap h more) =
    let rec = gap_passed gap rest more in
    let whole : (words ++ line_feed ∷ gap) ++ rest ≡ words ++ line_feed ∷ (gap ++ rest) = append_assoc words (line_feed ∷ gap) rest in
    let inner : gap_length true ((words ++ line_feed ∷ gap) ++ rest) ≡ length words + suc (gap_length false (gap ++ rest)) = ap (gap_length true) whole ∙ comment_passed words (gap ++ rest) h in
    let first : gap_length false (semicolon ∷ ((words ++ line_feed ∷ gap) ++ rest)) ≡ suc (gap_length true ((words ++ line_feed ∷ gap) ++ rest)) = gap_length_yes false semicolon ((words ++ line_feed ∷ gap) ++ rest) refl in
    let size : length (words ++ line_feed ∷ gap) ≡ length words + suc (length gap) = length-append words (line_feed ∷ gap) in
    omega arith

-- what follows a byte that separates nothing doesn't count
pub gap_apart : (c : Bool) (text more : List ℕ) → gap_length c text < length text → gap_length c (text ++ more) ≡ gap_length c text
gap_apart c [] more inside = absurd (omega arith)
gap_apart c (b ∷ text) more inside =
    elim (cases_Bool (c || is_separator b)) [
      | inl sep ↦
          let here = gap_length_yes c b text sep in
          let there = gap_length_yes c b (text ++ more) sep in
          there ∙ ap suc (gap_apart (goes_on c b) text more (omega arith)) ∙ sym here
      | inr other ↦ gap_length_no c b (text ++ more) other ∙ sym (gap_length_no c b text other)
    ]

-- nothing is passed at a byte that separates nothing
pub gap_none : (b : ℕ) (text : List ℕ) → is_separator b ≡ false → gap_length false (b ∷ text) ≡ 0
gap_none b text h = gap_length_no false b text h
