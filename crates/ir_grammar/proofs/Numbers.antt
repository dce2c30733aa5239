-- The number of digits, up to a bound.
use Rattle.std.proofs.Common.{ℕ, List, [], ◌∷◌, ◌+◌, ◌*◌, ◌≤◌, ◌<◌, ◌≡◌, refl, sym, ◌∙◌, ap, min, inl, inr, length, drop, get_or, add-one, drop-cons, arith}
use Rattle.std.proofs.lemmas.Bool.{cases_lt}
use Rattle.std.proofs.lemmas.List.{drop_all}
use Rattle.std.specs.Str.Parse.{digits_value_after}
use Rattle.std.specs.Char.{digit_value}
use Rattle.ir_grammar.specs.KindOf.{greatest}

-- more digits make no less
pub digits_grow : (n : ℕ) (ds : List ℕ) → n ≤ digits_value_after 10 n ds
digits_grow n [] = omega arith
digits_grow n (d ∷ ds) = let h : n * 10 + digit_value d ≤ digits_value_after 10 (n * 10 + digit_value d) ds = digits_grow (n * 10 + digit_value d) ds in omega (arith, h)

-- and from no less no less
pub digits_from : (n m : ℕ) (ds : List ℕ) → n ≤ m → digits_value_after 10 n ds ≤ digits_value_after 10 m ds
digits_from n m [] h = h
digits_from n m (d ∷ ds) h = digits_from (n * 10 + digit_value d) (m * 10 + digit_value d) ds (omega arith)

-- a number that was cut at the bound gives the same number, cut at the bound
pub digits_cut : (k n : ℕ) (ds : List ℕ) → min (digits_value_after 10 (min n k) ds) k ≡ min (digits_value_after 10 n ds) k
digits_cut k n ds =
    let a : min n k ≤ digits_value_after 10 (min n k) ds = digits_grow (min n k) ds in
    let b : n ≤ digits_value_after 10 n ds = digits_grow n ds in
    elim (cases_lt k n) [
      | inl h ↦ omega (arith, a, b)
      | inr h ↦ (let e : min n k ≡ n = omega arith in ap (λ v. min (digits_value_after 10 v ds) k) e)
    ]

-- one digit more, each step cut at the bound
pub digits_more : (n i : ℕ) (ds : List ℕ) → i < length ds
    → min (digits_value_after 10 (min (min (n * 10) greatest + digit_value (get_or ds i 0)) greatest) (drop (i + 1) ds)) greatest ≡ min (digits_value_after 10 n (drop i ds)) greatest
digits_more n i ds h =
    let step : min (min (n * 10) greatest + digit_value (get_or ds i 0)) greatest ≡ min (n * 10 + digit_value (get_or ds i 0)) greatest = omega arith in
    let front : drop i ds ≡ get_or ds i 0 ∷ drop (i + 1) ds = rw (add-one, drop-cons ds i 0) refl in
    ap (λ v. min (digits_value_after 10 v (drop (i + 1) ds)) greatest) step
    ∙ (digits_cut greatest (n * 10 + digit_value (get_or ds i 0)) (drop (i + 1) ds)
    ∙ sym (ap (λ v. min (digits_value_after 10 n v) greatest) front))

-- behind the last digit the number is all
pub digits_end : (n i : ℕ) (ds : List ℕ) → length ds ≤ i → n ≤ greatest → min (digits_value_after 10 n (drop i ds)) greatest ≡ n
digits_end n i ds h le =
    let e : min n greatest ≡ n = omega arith in
    ap (λ v. min (digits_value_after 10 n v) greatest) (drop_all i ds h) ∙ e
