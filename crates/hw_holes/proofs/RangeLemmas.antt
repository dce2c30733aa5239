-- What the definitions on lists of free ranges say at the place that the searches find, and that ranges stay apart.
use Rattle.std.proofs.Common.{◌≡◌, ℕ, zero, suc, ◌+◌, ◌<◌, ◌≤◌, ◌%◌, Bool, true, false, List, [], ◌∷◌, ◌++◌, length, take, drop, Some, None, refl, sym, ap, ◌∙◌, subst, inl, inr, arith, cond, slice_set, slice_index_or}
use Rattle.std.specs.Prelude.{◌⊎◌, nat_eq, nat_le, nat_lt}
use Rattle.std.specs.List.{remove}
use Rattle.std.proofs.lemmas.Bool.{cond_both, cond-true, cond-false}
use Rattle.std.proofs.lemmas.Bool.Decides.{nat_tests}
use Rattle.hw_holes.specs.declared.ranges.FreeRange.{FreeRange}
use Rattle.hw_holes.specs.FreeRanges.{AreApart, IsNotFree, fits, place_for, taken, without_front, joined, given, first_fit, first_reaching}

-- a test's value, with the equation
pub seen : (b : Bool) → (b ≡ true) ⊎ (b ≡ false)
seen true = inl refl
seen false = inr refl

pub first_fit-within : (size : ℕ) (ranges : List FreeRange) → first_fit size ranges ≤ length ranges
first_fit-within size [] = omega arith
first_fit-within size (range ∷ rest) =
    let later = first_fit-within size rest in
    cond_both (fits size range) 0 (suc (first_fit size rest)) (λ (n : ℕ). n ≤ suc (length rest)) (λ _. omega arith) (λ _. omega arith)

pub first_reaching-within : (at : ℕ) (ranges : List FreeRange) → first_reaching at ranges ≤ length ranges
first_reaching-within at [] = omega arith
first_reaching-within at (range ∷ rest) =
    let later = first_reaching-within at rest in
    cond_both (nat_le at range.to) 0 (suc (first_reaching at rest)) (λ (n : ℕ). n ≤ suc (length rest)) (λ _. omega arith) (λ _. omega arith)

pub joined-set : (ranges : List FreeRange) (place from to : ℕ) (d : FreeRange) → place < length ranges → (slice_index_or ranges place d).from ≡ to → slice_set ranges place (record { from = from; to = (slice_index_or ranges place d).to }) ≡ take place ranges ++ joined from to (drop place ranges)
joined-set [] place from to d within touch = absurd (omega arith)
joined-set (range ∷ rest) zero from to d within touch =
    sym (cond-true (nat_eq range.from to) (record { from = from; to = range.to } ∷ rest) (record { from = from; to = to } ∷ range ∷ rest) (grind (arith, nat_tests)))
joined-set (range ∷ rest) (suc place) from to d within touch =
    ap (λ (l : List FreeRange). range ∷ l) (joined-set rest place from to d (omega arith) touch)

pub joined-insert : (ranges : List FreeRange) (place from to : ℕ) (d : FreeRange) → (place < length ranges → ¬ ((slice_index_or ranges place d).from ≡ to)) → place ≤ length ranges → take place ranges ++ record { from = from; to = to } ∷ drop place ranges ≡ take place ranges ++ joined from to (drop place ranges)
joined-insert [] zero from to d apart within = refl
joined-insert [] (suc place) from to d apart within = absurd (omega arith)
joined-insert (range ∷ rest) zero from to d apart within =
    let no_ = apart (omega arith) in
    sym (cond-false (nat_eq range.from to) (record { from = from; to = range.to } ∷ rest) (record { from = from; to = to } ∷ range ∷ rest) (grind (arith, nat_tests)))
joined-insert (range ∷ rest) (suc place) from to d apart within =
    ap (λ (l : List FreeRange). range ∷ l) (joined-insert rest place from to d (λ w. apart (omega arith)) (omega arith))

-- at the first range that fits
pub first_fit-none : (size : ℕ) (ranges : List FreeRange) → first_fit size ranges ≡ length ranges → (place_for size ranges ≡ None) × (taken size ranges ≡ ranges)
first_fit-none size [] h = (refl, refl)
first_fit-none size (range ∷ rest) h = elim (seen (fits size range)) [
  | inl yes_ ↦
      let zero_ = cond-true (fits size range) 0 (suc (first_fit size rest)) yes_ in
      absurd (omega arith)
  | inr no_ ↦
      let next = cond-false (fits size range) 0 (suc (first_fit size rest)) no_ in
      let later = first_fit-none size rest (omega arith) in (
        cond-false (fits size range) (Some range.from) (place_for size rest) no_ ∙ later.0,
        cond-false (fits size range) (without_front size range ++ rest) (range ∷ taken size rest) no_ ∙ ap (λ (l : List FreeRange). range ∷ l) later.1,
      )
]

pub record TakenAt (size : ℕ) (ranges : List FreeRange) (place : ℕ) (range : FreeRange) : Type 0 where
  pub fit : range.from + size ≤ range.to
  pub found : place_for size ranges ≡ Some range.from
  pub whole : range.from + size ≡ range.to → taken size ranges ≡ remove ranges place
  pub part : ¬ (range.from + size ≡ range.to) → taken size ranges ≡ slice_set ranges place (record { from = range.from + size; to = range.to })

pub taken-at : (size : ℕ) (ranges : List FreeRange) (d : FreeRange) → first_fit size ranges < length ranges → TakenAt size ranges (first_fit size ranges) (slice_index_or ranges (first_fit size ranges) d)
taken-at size [] d h = absurd (omega arith)
taken-at size (range ∷ rest) d h = elim (seen (fits size range)) [
  | inl yes_ ↦
      let here = cond-true (fits size range) 0 (suc (first_fit size rest)) yes_ in
      let cut = cond-true (fits size range) (without_front size range ++ rest) (range ∷ taken size rest) yes_ in
      let at_first : TakenAt size (range ∷ rest) 0 range = record {
        fit = grind (arith, nat_tests);
        found = cond-true (fits size range) (Some range.from) (place_for size rest) yes_;
        whole = λ all_. cut ∙ ap (λ (l : List FreeRange). l ++ rest) (cond-true (nat_eq (range.from + size) range.to) [] (record { from = range.from + size; to = range.to } ∷ []) (grind (arith, nat_tests)));
        part = λ some_. cut ∙ ap (λ (l : List FreeRange). l ++ rest) (cond-false (nat_eq (range.from + size) range.to) [] (record { from = range.from + size; to = range.to } ∷ []) (grind (arith, nat_tests)));
      } in
      subst (λ (n : ℕ). TakenAt size (range ∷ rest) n (slice_index_or (range ∷ rest) n d)) (sym here) at_first
  | inr no_ ↦
      let next = cond-false (fits size range) 0 (suc (first_fit size rest)) no_ in
      let later = taken-at size rest d (omega arith) in
      let past = cond-false (fits size range) (without_front size range ++ rest) (range ∷ taken size rest) no_ in
      let at_later : TakenAt size (range ∷ rest) (suc (first_fit size rest)) (slice_index_or rest (first_fit size rest) d) = record {
        fit = later.fit;
        found = cond-false (fits size range) (Some range.from) (place_for size rest) no_ ∙ later.found;
        whole = λ all_. past ∙ ap (λ (l : List FreeRange). range ∷ l) (later.whole all_);
        part = λ some_. past ∙ ap (λ (l : List FreeRange). range ∷ l) (later.part some_);
      } in
      subst (λ (n : ℕ). TakenAt size (range ∷ rest) n (slice_index_or (range ∷ rest) n d)) (sym next) at_later
]

-- ranges above a bound are above a lower one
pub AreApart-lower : (low lower high : ℕ) (ranges : List FreeRange) → lower ≤ low → AreApart low high ranges → AreApart lower high ranges
AreApart-lower low lower high [] h a = tt
AreApart-lower low lower high (range ∷ rest) h a =
    let above = a.0.above_low in
    (record { above_low = omega arith; not_empty = a.0.not_empty; below_high = a.0.below_high; from_in_steps = a.0.from_in_steps; to_in_steps = a.0.to_in_steps }, a.1)

pub AreApart-taken : (size low high : ℕ) (ranges : List FreeRange) → 0 < size → size % 16 ≡ 0 → AreApart low high ranges → AreApart low high (taken size ranges)
AreApart-taken size low high [] some_ steps a = tt
AreApart-taken size low high (range ∷ rest) some_ steps a =
    cond_both (fits size range) (without_front size range ++ rest) (range ∷ taken size rest) (λ (l : List FreeRange). AreApart low high l)
    (λ fit. cond_both (nat_eq (range.from + size) range.to) [] (record { from = range.from + size; to = range.to } ∷ []) (λ (l : List FreeRange). AreApart low high (l ++ rest))
    (λ _. let low_ = a.0.above_low in let most = a.0.not_empty in AreApart-lower (suc range.to) low high rest (omega arith) a.1)
    (λ part.
    let low_ = a.0.above_low in
    let steps_ = a.0.from_in_steps in
    let fit_ : range.from + size ≤ range.to = grind (arith, nat_tests) in
    let part_ : ¬ (range.from + size ≡ range.to) = grind (arith, nat_tests) in
    (record { above_low = omega arith; not_empty = omega arith; below_high = a.0.below_high; from_in_steps = omega arith; to_in_steps = a.0.to_in_steps }, a.1)))
    (λ _. (a.0, AreApart-taken size (suc range.to) high rest some_ steps a.1))

pub same-item : (ranges : List FreeRange) (place : ℕ) (d e : FreeRange) → place < length ranges → slice_index_or ranges place d ≡ slice_index_or ranges place e
same-item [] place d e h = absurd (omega arith)
same-item (range ∷ rest) zero d e h = refl
same-item (range ∷ rest) (suc place) d e h = same-item rest place d e (omega arith)

-- the same where the place and the range are known by equations
pub taken-at-place : (size : ℕ) (ranges : List FreeRange) (place : ℕ) (range : FreeRange) → place ≡ first_fit size ranges → place < length ranges → range ≡ slice_index_or ranges place range → TakenAt size ranges place range
taken-at-place size ranges place range first within read =
    let at_ = taken-at size ranges range (omega arith) in
    let there = subst (λ (n : ℕ). TakenAt size ranges n (slice_index_or ranges n range)) (sym first) at_ in
    subst (λ (r : FreeRange). TakenAt size ranges place r) (sym read) there

pub joined-set-at : (ranges : List FreeRange) (place from to : ℕ) (range other : FreeRange) → place < length ranges → range ≡ slice_index_or ranges place range → other ≡ slice_index_or ranges place other → other.from ≡ to → slice_set ranges place (record { from = from; to = range.to }) ≡ take place ranges ++ joined from to (drop place ranges)
joined-set-at ranges place from to range other within read read_other touch =
    let same : range ≡ other = read ∙ same-item ranges place range other within ∙ sym read_other in
    let touch_ : (slice_index_or ranges place range).from ≡ to = ap (λ (r : FreeRange). r.from) (sym read ∙ same) ∙ touch in
    ap (λ (r : FreeRange). slice_set ranges place (record { from = from; to = r.to })) read ∙ joined-set ranges place from to range within touch_

pub first_fit-below : (size : ℕ) (ranges : List FreeRange) (place : ℕ) → place ≡ first_fit size ranges → ¬ (place ≡ length ranges) → place < length ranges
first_fit-below size ranges place first not_all = let most = first_fit-within size ranges in omega (arith, most, first, not_all)

-- at the first range that reaches an address
pub first_reaching-at : (at : ℕ) (ranges : List FreeRange) (place : ℕ) → place ≡ first_reaching at ranges → place ≤ length ranges
first_reaching-at at ranges place first = let most = first_reaching-within at ranges in omega (arith, most, first)

given-before : (at size : ℕ) (ranges : List FreeRange) (d : FreeRange) → first_reaching at ranges < length ranges → (slice_index_or ranges (first_reaching at ranges) d).to ≡ at → take (first_reaching at ranges) (remove ranges (first_reaching at ranges)) ++ joined (slice_index_or ranges (first_reaching at ranges) d).from (at + size) (drop (first_reaching at ranges) (remove ranges (first_reaching at ranges))) ≡ given at size ranges
given-before at size [] d within touch = absurd (omega arith)
given-before at size (range ∷ rest) d within touch = elim (seen (nat_le at range.to)) [
  | inl yes_ ↦
      let here = cond-true (nat_le at range.to) 0 (suc (first_reaching at rest)) yes_ in
      let touch_ : range.to ≡ at = subst (λ (n : ℕ). (slice_index_or (range ∷ rest) n d).to ≡ at) here touch in
      let at_first : joined range.from (at + size) rest ≡ given at size (range ∷ rest) =
      sym (cond-false (nat_lt range.to at) (range ∷ given at size rest) (cond (nat_eq range.to at) (joined range.from (at + size) rest) (joined at (at + size) (range ∷ rest))) (grind (arith, nat_tests))
      ∙ cond-true (nat_eq range.to at) (joined range.from (at + size) rest) (joined at (at + size) (range ∷ rest)) (grind (arith, nat_tests))) in
      subst (λ (n : ℕ). take n (remove (range ∷ rest) n) ++ joined (slice_index_or (range ∷ rest) n d).from (at + size) (drop n (remove (range ∷ rest) n)) ≡ given at size (range ∷ rest)) (sym here) at_first
  | inr no_ ↦
      let next = cond-false (nat_le at range.to) 0 (suc (first_reaching at rest)) no_ in
      let touch_ : (slice_index_or rest (first_reaching at rest) d).to ≡ at = subst (λ (n : ℕ). (slice_index_or (range ∷ rest) n d).to ≡ at) next touch in
      let later = given-before at size rest d (omega arith) touch_ in
      let at_later = ap (λ (l : List FreeRange). range ∷ l) later
      ∙ sym (cond-true (nat_lt range.to at) (range ∷ given at size rest) (cond (nat_eq range.to at) (joined range.from (at + size) rest) (joined at (at + size) (range ∷ rest))) (grind (arith, nat_tests))) in
      subst (λ (n : ℕ). take n (remove (range ∷ rest) n) ++ joined (slice_index_or (range ∷ rest) n d).from (at + size) (drop n (remove (range ∷ rest) n)) ≡ given at size (range ∷ rest)) (sym next) at_later
]

given-new : (at size : ℕ) (ranges : List FreeRange) (d : FreeRange) → (first_reaching at ranges < length ranges → ¬ ((slice_index_or ranges (first_reaching at ranges) d).to ≡ at)) → take (first_reaching at ranges) ranges ++ joined at (at + size) (drop (first_reaching at ranges) ranges) ≡ given at size ranges
given-new at size [] d apart = refl
given-new at size (range ∷ rest) d apart = elim (seen (nat_le at range.to)) [
  | inl yes_ ↦
      let here = cond-true (nat_le at range.to) 0 (suc (first_reaching at rest)) yes_ in
      let apart_ : ¬ (range.to ≡ at) = subst (λ (n : ℕ). ¬ ((slice_index_or (range ∷ rest) n d).to ≡ at)) here (apart (omega arith)) in
      let at_first : joined at (at + size) (range ∷ rest) ≡ given at size (range ∷ rest) =
      sym (cond-false (nat_lt range.to at) (range ∷ given at size rest) (cond (nat_eq range.to at) (joined range.from (at + size) rest) (joined at (at + size) (range ∷ rest))) (grind (arith, nat_tests))
      ∙ cond-false (nat_eq range.to at) (joined range.from (at + size) rest) (joined at (at + size) (range ∷ rest)) (grind (arith, nat_tests))) in
      subst (λ (n : ℕ). take n (range ∷ rest) ++ joined at (at + size) (drop n (range ∷ rest)) ≡ given at size (range ∷ rest)) (sym here) at_first
  | inr no_ ↦
      let next = cond-false (nat_le at range.to) 0 (suc (first_reaching at rest)) no_ in
      let later = given-new at size rest d (λ below. subst (λ (n : ℕ). ¬ ((slice_index_or (range ∷ rest) n d).to ≡ at)) next (apart (omega arith))) in
      let at_later = ap (λ (l : List FreeRange). range ∷ l) later
      ∙ sym (cond-true (nat_lt range.to at) (range ∷ given at size rest) (cond (nat_eq range.to at) (joined range.from (at + size) rest) (joined at (at + size) (range ∷ rest))) (grind (arith, nat_tests))) in
      subst (λ (n : ℕ). take n (range ∷ rest) ++ joined at (at + size) (drop n (range ∷ rest)) ≡ given at size (range ∷ rest)) (sym next) at_later
]

pub given-before-at : (at size : ℕ) (ranges removed : List FreeRange) (place : ℕ) (before other : FreeRange) → place ≡ first_reaching at ranges → place < length ranges → before ≡ slice_index_or ranges place before → other ≡ slice_index_or ranges place other → other.to ≡ at → removed ≡ remove ranges place → take place removed ++ joined before.from (at + size) (drop place removed) ≡ given at size ranges
given-before-at at size ranges removed place before other first within read read_other touch gone =
    let touch_ : (slice_index_or ranges place before).to ≡ at = ap (λ (r : FreeRange). r.to) (same-item ranges place before other within ∙ sym read_other) ∙ touch in
    let same = given-before at size ranges before (omega (arith, first, within)) (subst (λ (n : ℕ). (slice_index_or ranges n before).to ≡ at) first touch_) in
    let there = subst (λ (n : ℕ). take n (remove ranges n) ++ joined (slice_index_or ranges n before).from (at + size) (drop n (remove ranges n)) ≡ given at size ranges) (sym first) same in
    let held = subst (λ (r : FreeRange). take place (remove ranges place) ++ joined r.from (at + size) (drop place (remove ranges place)) ≡ given at size ranges) (sym read) there in
    subst (λ (l : List FreeRange). take place l ++ joined before.from (at + size) (drop place l) ≡ given at size ranges) (sym gone) held

pub given-new-at : (at size : ℕ) (ranges : List FreeRange) (place : ℕ) (d : FreeRange) → place ≡ first_reaching at ranges → (place < length ranges → ¬ ((slice_index_or ranges place d).to ≡ at)) → take place ranges ++ joined at (at + size) (drop place ranges) ≡ given at size ranges
given-new-at at size ranges place d first apart =
    let same = given-new at size ranges d (subst (λ (n : ℕ). n < length ranges → ¬ ((slice_index_or ranges n d).to ≡ at)) first apart) in
    subst (λ (n : ℕ). take n ranges ++ joined at (at + size) (drop n ranges) ≡ given at size ranges) (sym first) same

AreApart-joined : (from to low high : ℕ) (ranges : List FreeRange) → low ≤ from → from < to → to ≤ high → from % 16 ≡ 0 → to % 16 ≡ 0 → AreApart to high ranges → AreApart low high (joined from to ranges)
AreApart-joined from to low high [] above some_ below steps to_steps a = (record { above_low = above; not_empty = some_; below_high = below; from_in_steps = steps; to_in_steps = to_steps }, tt)
AreApart-joined from to low high (next ∷ rest) above some_ below steps to_steps a =
    let over = a.0.above_low in
    let most = a.0.not_empty in
    cond_both (nat_eq next.from to) (record { from = from; to = next.to } ∷ rest) (record { from = from; to = to } ∷ next ∷ rest) (λ (l : List FreeRange). AreApart low high l)
    (λ _. (record { above_low = above; not_empty = omega arith; below_high = a.0.below_high; from_in_steps = steps; to_in_steps = a.0.to_in_steps }, a.1))
    (λ apart.
    let apart_ : ¬ (next.from ≡ to) = grind (arith, nat_tests) in (
      record { above_low = above; not_empty = some_; below_high = below; from_in_steps = steps; to_in_steps = to_steps },
      (record { above_low = omega arith; not_empty = a.0.not_empty; below_high = a.0.below_high; from_in_steps = a.0.from_in_steps; to_in_steps = a.0.to_in_steps }, a.1),
    ))

AreApart-after : (at size low high : ℕ) (ranges : List FreeRange) → at < low → IsNotFree at size ranges → AreApart low high ranges → AreApart (at + size) high ranges
AreApart-after at size low high [] above free a = tt
AreApart-after at size low high (next ∷ rest) above free a = elim free.0 [
  | inl behind ↦ (record { above_low = behind; not_empty = a.0.not_empty; below_high = a.0.below_high; from_in_steps = a.0.from_in_steps; to_in_steps = a.0.to_in_steps }, a.1)
  | inr before ↦ let over = a.0.above_low in let most = a.0.not_empty in absurd (omega arith)
]

pub AreApart-given : (at size low high : ℕ) (ranges : List FreeRange) → 0 < size → at % 16 ≡ 0 → size % 16 ≡ 0 → low ≤ at → at + size ≤ high → IsNotFree at size ranges → AreApart low high ranges → AreApart low high (given at size ranges)
AreApart-given at size low high [] some_ steps size_steps above below free a = (record { above_low = above; not_empty = omega arith; below_high = below; from_in_steps = steps; to_in_steps = omega arith }, tt)
AreApart-given at size low high (range ∷ rest) some_ steps size_steps above below free a =
    let over = a.0.above_low in
    let most = a.0.not_empty in
    cond_both (nat_lt range.to at) (range ∷ given at size rest) (cond (nat_eq range.to at) (joined range.from (at + size) rest) (joined at (at + size) (range ∷ rest))) (λ (l : List FreeRange). AreApart low high l)
    (λ before. (a.0, AreApart-given at size (suc range.to) high rest some_ steps size_steps (grind (arith, nat_tests)) below free.1 a.1))
    (λ reaches.
    let reaches_ : at ≤ range.to = grind (arith, nat_tests) in
    cond_both (nat_eq range.to at) (joined range.from (at + size) rest) (joined at (at + size) (range ∷ rest)) (λ (l : List FreeRange). AreApart low high l)
    (λ touches.
    let touches_ : range.to ≡ at = grind (arith, nat_tests) in
    AreApart-joined range.from (at + size) low high rest over (omega arith) below a.0.from_in_steps (omega arith) (AreApart-after at size (suc range.to) high rest (omega arith) free.1 a.1))
    (λ apart.
    let apart_ : ¬ (range.to ≡ at) = grind (arith, nat_tests) in
    let behind : at + size ≤ range.from = elim free.0 [ inl h ↦ h | inr h ↦ absurd (omega arith) ] in
    AreApart-joined at (at + size) low high (range ∷ rest) above (omega arith) below steps (omega arith)
    (record { above_low = behind; not_empty = a.0.not_empty; below_high = a.0.below_high; from_in_steps = a.0.from_in_steps; to_in_steps = a.0.to_in_steps }, a.1)))
