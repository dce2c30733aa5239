-- What is taken is free no more, what is given is free, and how many bytes are free afterwards.
use Rattle.std.proofs.Common.{◌≡◌, ℕ, suc, ◌+◌, ◌-◌, ◌<◌, ◌≤◌, List, [], ◌∷◌, ◌++◌, Some, None, sym, ◌∙◌, subst, inl, inr, arith, cond}
use Rattle.std.specs.Prelude.{◌⊎◌, nat_eq, nat_lt}
use Rattle.std.proofs.lemmas.Bool.{cond_both, cond-true, cond-false}
use Rattle.std.proofs.lemmas.Bool.Decides.{nat_tests}
use Rattle.hw_holes.proofs.RangeLemmas.{seen}
use Rattle.hw_holes.specs.declared.ranges.FreeRange.{FreeRange}
use Rattle.hw_holes.specs.FreeRanges.{AreApart, IsNotFree, fits, place_for, taken, without_front, joined, given, free_bytes, IsFree}

-- what ends below all ranges isn't free
IsNotFree-below : (at size low high : ℕ) (ranges : List FreeRange) → at + size ≤ low → AreApart low high ranges → IsNotFree at size ranges
IsNotFree-below at size low high [] below a = tt
IsNotFree-below at size low high (range ∷ rest) below a =
    let over = a.0.above_low in
    let most = a.0.not_empty in
    (inl (omega arith), IsNotFree-below at size (suc range.to) high rest (omega arith) a.1)

pub IsNotFree-taken : (size at low high : ℕ) (ranges : List FreeRange) → AreApart low high ranges → place_for size ranges ≡ Some at → (low ≤ at) × IsNotFree at size (taken size ranges)
IsNotFree-taken size at low high [] a found = absurd (cc)
IsNotFree-taken size at low high (range ∷ rest) a found = elim (seen (fits size range)) [
  | inl yes_ ↦
      let low_ = a.0.above_low in
      let fit : range.from + size ≤ range.to = grind (arith, nat_tests) in
      let here : Some range.from ≡ Some at = sym (cond-true (fits size range) (Some range.from) (place_for size rest) yes_) ∙ found in
      let same : range.from ≡ at = cc in
      let later : IsNotFree at size rest = IsNotFree-below at size (suc range.to) high rest (omega arith) a.1 in (
        omega arith,
        subst (λ (l : List FreeRange). IsNotFree at size l) (sym (cond-true (fits size range) (without_front size range ++ rest) (range ∷ taken size rest) yes_))
            (cond_both (nat_eq (range.from + size) range.to) [] (record { from = range.from + size; to = range.to } ∷ []) (λ (l : List FreeRange). IsNotFree at size (l ++ rest))
            (λ _. later) (λ _. (inl (omega arith), later))),
      )
  | inr no_ ↦
      let low_ = a.0.above_low in
      let most = a.0.not_empty in
      let (above, later) = IsNotFree-taken size at (suc range.to) high rest a.1 (sym (cond-false (fits size range) (Some range.from) (place_for size rest) no_) ∙ found) in (
        omega arith,
        subst (λ (l : List FreeRange). IsNotFree at size l) (sym (cond-false (fits size range) (without_front size range ++ rest) (range ∷ taken size rest) no_))
            (inr (omega arith), later),
      )
]

pub IsNotFree-taken_other : (size at other : ℕ) (ranges : List FreeRange) → IsNotFree at other ranges → IsNotFree at other (taken size ranges)
IsNotFree-taken_other size at other [] free = tt
IsNotFree-taken_other size at other (range ∷ rest) free =
    cond_both (fits size range) (without_front size range ++ rest) (range ∷ taken size rest) (λ (l : List FreeRange). IsNotFree at other l)
    (λ _. cond_both (nat_eq (range.from + size) range.to) [] (record { from = range.from + size; to = range.to } ∷ []) (λ (l : List FreeRange). IsNotFree at other (l ++ rest))
    (λ _. free.1) (λ _. (elim free.0 [ inl h ↦ inl (omega arith) | inr h ↦ inr h ], free.1)))
    (λ _. (free.0, IsNotFree-taken_other size at other rest free.1))

pub free_bytes-taken : (size at low high : ℕ) (ranges : List FreeRange) → AreApart low high ranges → place_for size ranges ≡ Some at → free_bytes (taken size ranges) + size ≡ free_bytes ranges
free_bytes-taken size at low high [] a found = absurd (cc)
free_bytes-taken size at low high (range ∷ rest) a found = elim (seen (fits size range)) [
  | inl yes_ ↦
      let fit : range.from + size ≤ range.to = grind (arith, nat_tests) in
      subst (λ (l : List FreeRange). free_bytes l + size ≡ free_bytes (range ∷ rest)) (sym (cond-true (fits size range) (without_front size range ++ rest) (range ∷ taken size rest) yes_))
      (cond_both (nat_eq (range.from + size) range.to) [] (record { from = range.from + size; to = range.to } ∷ []) (λ (l : List FreeRange). free_bytes (l ++ rest) + size ≡ free_bytes (range ∷ rest))
      (λ all_. let all__ : range.from + size ≡ range.to = grind (arith, nat_tests) in omega arith) (λ _. omega arith))
  | inr no_ ↦
      let later = free_bytes-taken size at (suc range.to) high rest a.1 (sym (cond-false (fits size range) (Some range.from) (place_for size rest) no_) ∙ found) in
      subst (λ (l : List FreeRange). free_bytes l + size ≡ free_bytes (range ∷ rest)) (sym (cond-false (fits size range) (without_front size range ++ rest) (range ∷ taken size rest) no_))
      (omega arith)
]

IsNotFree-joined : (from to address other : ℕ) (ranges : List FreeRange) → 0 < other → IsNotFree address other ranges → (address + other ≤ from) ⊎ (to ≤ address) → IsNotFree address other (joined from to ranges)
IsNotFree-joined from to address other [] some_ free apart = (apart, tt)
IsNotFree-joined from to address other (next ∷ rest) some_ free apart =
    cond_both (nat_eq next.from to) (record { from = from; to = next.to } ∷ rest) (record { from = from; to = to } ∷ next ∷ rest) (λ (l : List FreeRange). IsNotFree address other l)
    (λ touches.
    let touches_ : next.from ≡ to = grind (arith, nat_tests) in (
      elim apart [
        | inl h ↦ inl h
        | inr h ↦ elim free.0 [ inl k ↦ absurd (omega arith) | inr k ↦ inr k ]
      ],
      free.1,
    ))
    (λ _. (apart, free))

pub IsNotFree-given : (at size address other : ℕ) (ranges : List FreeRange) → 0 < other → IsNotFree address other ranges → (address + other ≤ at) ⊎ (at + size ≤ address) → IsNotFree address other (given at size ranges)
IsNotFree-given at size address other [] some_ free apart = (apart, tt)
IsNotFree-given at size address other (range ∷ rest) some_ free apart =
    cond_both (nat_lt range.to at) (range ∷ given at size rest) (cond (nat_eq range.to at) (joined range.from (at + size) rest) (joined at (at + size) (range ∷ rest))) (λ (l : List FreeRange). IsNotFree address other l)
    (λ _. (free.0, IsNotFree-given at size address other rest some_ free.1 apart))
    (λ _. cond_both (nat_eq range.to at) (joined range.from (at + size) rest) (joined at (at + size) (range ∷ rest)) (λ (l : List FreeRange). IsNotFree address other l)
    (λ touches.
    let touches_ : range.to ≡ at = grind (arith, nat_tests) in
    let apart_ : (address + other ≤ range.from) ⊎ (at + size ≤ address) = elim free.0 [
      | inl h ↦ inl h
      | inr h ↦ elim apart [ inl k ↦ absurd (omega arith) | inr k ↦ inr k ]
    ] in
    IsNotFree-joined range.from (at + size) address other rest some_ free.1 apart_)
    (λ _. IsNotFree-joined at (at + size) address other (range ∷ rest) some_ free apart))

free_bytes-joined : (from to low high : ℕ) (ranges : List FreeRange) → from ≤ to → AreApart low high ranges → free_bytes (joined from to ranges) ≡ free_bytes ranges + (to - from)
free_bytes-joined from to low high [] some_ a = omega arith
free_bytes-joined from to low high (next ∷ rest) some_ a =
    let most = a.0.not_empty in
    cond_both (nat_eq next.from to) (record { from = from; to = next.to } ∷ rest) (record { from = from; to = to } ∷ next ∷ rest) (λ (l : List FreeRange). free_bytes l ≡ free_bytes (next ∷ rest) + (to - from))
    (λ touches. let touches_ : next.from ≡ to = grind (arith, nat_tests) in omega arith)
    (λ _. omega arith)

pub free_bytes-given : (at size low high : ℕ) (ranges : List FreeRange) → AreApart low high ranges → free_bytes (given at size ranges) ≡ free_bytes ranges + size
free_bytes-given at size low high [] a = omega arith
free_bytes-given at size low high (range ∷ rest) a =
    let most = a.0.not_empty in
    cond_both (nat_lt range.to at) (range ∷ given at size rest) (cond (nat_eq range.to at) (joined range.from (at + size) rest) (joined at (at + size) (range ∷ rest))) (λ (l : List FreeRange). free_bytes l ≡ free_bytes (range ∷ rest) + size)
    (λ _. let later = free_bytes-given at size (suc range.to) high rest a.1 in omega arith)
    (λ _. cond_both (nat_eq range.to at) (joined range.from (at + size) rest) (joined at (at + size) (range ∷ rest)) (λ (l : List FreeRange). free_bytes l ≡ free_bytes (range ∷ rest) + size)
    (λ touches.
    let touches_ : range.to ≡ at = grind (arith, nat_tests) in
    let sum = free_bytes-joined range.from (at + size) (suc range.to) high rest (omega arith) a.1 in
    omega arith)
    (λ _. let sum = free_bytes-joined at (at + size) low high (range ∷ rest) (omega arith) a in omega arith))

pub IsFree-place_for : (size at : ℕ) (ranges : List FreeRange) → place_for size ranges ≡ Some at → IsFree at size ranges
IsFree-place_for size at [] found = absurd (cc)
IsFree-place_for size at (range ∷ rest) found = elim (seen (fits size range)) [
  | inl yes_ ↦
      let fit : range.from + size ≤ range.to = grind (arith, nat_tests) in
      let here : Some range.from ≡ Some at = sym (cond-true (fits size range) (Some range.from) (place_for size rest) yes_) ∙ found in
      let same : range.from ≡ at = cc in
      inl (omega arith, omega arith)
  | inr no_ ↦ inr (IsFree-place_for size at rest (sym (cond-false (fits size range) (Some range.from) (place_for size rest) no_) ∙ found))
]

IsFree-above : (size other low high : ℕ) (ranges : List FreeRange) → AreApart low high ranges → IsFree other size ranges → low ≤ other
IsFree-above size other low high [] a free = absurd free
IsFree-above size other low high (range ∷ rest) a free =
    let over = a.0.above_low in
    let most = a.0.not_empty in
    elim free [
      | inl h ↦ let from_ = h.0 in omega arith
      | inr h ↦ let later = IsFree-above size other (suc range.to) high rest a.1 h in omega arith
    ]

pub place_for-least : (size at other low high : ℕ) (ranges : List FreeRange) → AreApart low high ranges → place_for size ranges ≡ Some at → IsFree other size ranges → at ≤ other
place_for-least size at other low high [] a found free = absurd free
place_for-least size at other low high (range ∷ rest) a found free = elim (seen (fits size range)) [
  | inl yes_ ↦
      let here : Some range.from ≡ Some at = sym (cond-true (fits size range) (Some range.from) (place_for size rest) yes_) ∙ found in
      let same : range.from ≡ at = cc in
      let most = a.0.not_empty in
      elim free [
        | inl h ↦ let from_ = h.0 in omega arith
        | inr h ↦ let later = IsFree-above size other (suc range.to) high rest a.1 h in omega arith
      ]
  | inr no_ ↦
      let small : ¬ (range.from + size ≤ range.to) = grind (arith, nat_tests) in
      elim free [
        | inl h ↦ let from_ = h.0 in let to_ = h.1 in absurd (small (omega arith))
        | inr h ↦ place_for-least size at other (suc range.to) high rest a.1 (sym (cond-false (fits size range) (Some range.from) (place_for size rest) no_) ∙ found) h
      ]
]

pub place_for-none : (size other : ℕ) (ranges : List FreeRange) → place_for size ranges ≡ None → ¬ IsFree other size ranges
place_for-none size other [] found free = free
place_for-none size other (range ∷ rest) found free = elim (seen (fits size range)) [
  | inl yes_ ↦
      let here : Some range.from ≡ None = sym (cond-true (fits size range) (Some range.from) (place_for size rest) yes_) ∙ found in
      absurd (cc)
  | inr no_ ↦
      let small : ¬ (range.from + size ≤ range.to) = grind (arith, nat_tests) in
      elim free [
        | inl h ↦ let from_ = h.0 in let to_ = h.1 in absurd (small (omega arith))
        | inr h ↦ place_for-none size other rest (sym (cond-false (fits size range) (Some range.from) (place_for size rest) no_) ∙ found) h
      ]
]

IsFree-joined : (at size from to low high : ℕ) (ranges : List FreeRange) → from ≤ at → at + size ≤ to → AreApart low high ranges → IsFree at size (joined from to ranges)
IsFree-joined at size from to low high [] above below a = inl (above, below)
IsFree-joined at size from to low high (next ∷ rest) above below a =
    let most = a.0.not_empty in
    cond_both (nat_eq next.from to) (record { from = from; to = next.to } ∷ rest) (record { from = from; to = to } ∷ next ∷ rest) (λ (l : List FreeRange). IsFree at size l)
    (λ touches. let touches_ : next.from ≡ to = grind (arith, nat_tests) in inl (above, omega arith))
    (λ _. inl (above, below))

pub IsFree-given : (at size low high : ℕ) (ranges : List FreeRange) → AreApart low high ranges → IsFree at size (given at size ranges)
IsFree-given at size low high [] a = inl (omega arith, omega arith)
IsFree-given at size low high (range ∷ rest) a =
    let most = a.0.not_empty in
    cond_both (nat_lt range.to at) (range ∷ given at size rest) (cond (nat_eq range.to at) (joined range.from (at + size) rest) (joined at (at + size) (range ∷ rest))) (λ (l : List FreeRange). IsFree at size l)
    (λ _. inr (IsFree-given at size (suc range.to) high rest a.1))
    (λ _. cond_both (nat_eq range.to at) (joined range.from (at + size) rest) (joined at (at + size) (range ∷ rest)) (λ (l : List FreeRange). IsFree at size l)
    (λ touches. let touches_ : range.to ≡ at = grind (arith, nat_tests) in IsFree-joined at size range.from (at + size) (suc range.to) high rest (omega arith) (omega arith) a.1)
    (λ _. IsFree-joined at size at (at + size) low high (range ∷ rest) (omega arith) (omega arith) a))
