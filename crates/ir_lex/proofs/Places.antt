-- A place moves over bytes as the place behind them is defined.
use Rattle.std.proofs.Common.{zero, ◌≡◌, ℕ, ◌+◌, ◌<◌, ◌≤◌, List, [], ◌∷◌, ◌++◌, Bool, true, false, not, cond, length, drop, arith, sym, ◌∙◌, ap, suc, inl, inr, append_assoc, append-nil}
use Rattle.std.specs.Prelude.{fold, count_by}
use Rattle.std.specs.List.{prefix_len, suffix_len}
use Rattle.std.proofs.lemmas.Bool.{cond-true, cond-false, cases_Bool}
use Rattle.std.proofs.lemmas.List.{reverse-append, drop-drop}
use Rattle.std.proofs.lemmas.List.Sums.{sum_by_push, count_by-le-length, suffix_len-le-length}
use Rattle.ir_core.specs.Tokenisation.{place_after, ends_line, stays_on_line}
use Rattle.ir_core.specs.declared.refusals.Place.{Place}
use Rattle.ir_lex.specs.Gaps.{place_over}

-- places of one line and column are one
pub same_place : (p q : Place) → p.line ≡ q.line → p.column ≡ q.column → p ≡ q
same_place p q line column i = record { line = line i; column = column i }

-- the line behind one more byte
line_push : (before : List ℕ) (b : ℕ) → count_by ends_line (before ++ b ∷ []) ≡ count_by ends_line before + cond (ends_line b) 1 0
line_push before b = sum_by_push (λ x. cond (ends_line x) 1 0) before b

-- the bytes since the last LF, with one more
column_push : (before : List ℕ) (b : ℕ) → suffix_len stays_on_line (before ++ b ∷ []) ≡ cond (stays_on_line b) (1 + suffix_len stays_on_line before) 0
column_push before b = ap (prefix_len stays_on_line) (reverse-append before (b ∷ []))

line_ends : (before : List ℕ) (b : ℕ) → ends_line b ≡ true → (place_after (before ++ b ∷ [])).line ≡ (place_after before).line + 1
line_ends before b ends = let e : count_by ends_line (before ++ b ∷ []) ≡ count_by ends_line before + 1 = line_push before b ∙ ap (λ k. count_by ends_line before + k) (cond-true {A = ℕ} (ends_line b) 1 0 ends) in omega arith

line_stays : (before : List ℕ) (b : ℕ) → ends_line b ≡ false → (place_after (before ++ b ∷ [])).line ≡ (place_after before).line
line_stays before b stays = let e : count_by ends_line (before ++ b ∷ []) ≡ count_by ends_line before + 0 = line_push before b ∙ ap (λ k. count_by ends_line before + k) (cond-false {A = ℕ} (ends_line b) 1 0 stays) in omega arith

column_ends : (before : List ℕ) (b : ℕ) → ends_line b ≡ true → (place_after (before ++ b ∷ [])).column ≡ 1
column_ends before b ends = let e : suffix_len stays_on_line (before ++ b ∷ []) ≡ 0 = column_push before b ∙ cond-false {A = ℕ} (stays_on_line b) (1 + suffix_len stays_on_line before) 0 (ap not ends) in omega arith

column_stays : (before : List ℕ) (b : ℕ) → ends_line b ≡ false → (place_after (before ++ b ∷ [])).column ≡ (place_after before).column + 1
column_stays before b stays = let e : suffix_len stays_on_line (before ++ b ∷ []) ≡ 1 + suffix_len stays_on_line before = column_push before b ∙ cond-true {A = ℕ} (stays_on_line b) (1 + suffix_len stays_on_line before) 0 (ap not stays) in omega arith

place_push : (before : List ℕ) (b : ℕ) → place_over (place_after before) b ≡ place_after (before ++ b ∷ [])
unfolding place_over
place_push before b =
    let moved : Place = record { line = (place_after before).line + 1; column = 1 } in
    let stayed : Place = record { line = (place_after before).line; column = (place_after before).column + 1 } in
    elim (cases_Bool (ends_line b)) [
      | inl ends ↦ cond-true (ends_line b) moved stayed ends ∙ same_place moved (place_after (before ++ b ∷ [])) (sym (line_ends before b ends)) (sym (column_ends before b ends))
      | inr stays ↦ cond-false (ends_line b) moved stayed stays ∙ same_place stayed (place_after (before ++ b ∷ [])) (sym (line_stays before b stays)) (sym (column_stays before b stays))
    ]

-- the place behind some bytes, and some more
pub place_fold : (bytes before : List ℕ) → fold place_over (place_after before) bytes ≡ place_after (before ++ bytes)
place_fold [] before = ap place_after (sym (append-nil before))
place_fold (b ∷ bytes) before =
    ap (λ p. fold place_over p bytes) (place_push before b) ∙ place_fold bytes (before ++ b ∷ []) ∙ ap place_after (append_assoc before (b ∷ []) bytes)

-- a line and a column are at most one more than the bytes before
pub place_bounds : (before : List ℕ) → ((place_after before).line ≤ 1 + length before) × ((place_after before).column ≤ 1 + length before)
place_bounds before = (omega (arith, count_by-le-length ends_line before), omega (arith, suffix_len-le-length stays_on_line before))

-- the bytes that pass, behind some of them
prefix_drop : (p : ℕ → Bool) (n : ℕ) (xs : List ℕ) → n ≤ prefix_len p xs → n + prefix_len p (drop n xs) ≡ prefix_len p xs
prefix_drop p zero xs h = omega arith
prefix_drop p (suc n) [] h = absurd (omega arith)
prefix_drop p (suc n) (x ∷ xs) h =
    elim (cases_Bool (p x)) [
      | inl passes ↦
          let e : prefix_len p (x ∷ xs) ≡ 1 + prefix_len p xs = cond-true (p x) (1 + prefix_len p xs) 0 passes in
          let more = prefix_drop p n xs (omega arith) in
          omega arith
      | inr fails ↦ let e : prefix_len p (x ∷ xs) ≡ 0 = cond-false (p x) (1 + prefix_len p xs) 0 fails in absurd (omega arith)
    ]

-- the end of the bytes that pass stays where it is when some of them are passed over
pub run_end : (p : ℕ → Bool) (text : List ℕ) (at n end : ℕ) → end ≡ at + prefix_len p (drop at text) → at + n < end → end ≡ at + n + prefix_len p (drop (at + n) text)
run_end p text at n end e before =
    let here = prefix_drop p n (drop at text) (omega arith) in
    let there : prefix_len p (drop n (drop at text)) ≡ prefix_len p (drop (at + n) text) = ap (prefix_len p) (drop-drop n at text) in
    omega arith
