-- The byte at a place after others were written.
use Rattle.std.proofs.Common.{◌≡◌, ℕ, zero, suc, ◌+◌, ◌-◌, ◌<◌, ◌≤◌, List, [], ◌∷◌, ◌++◌, length, take, drop, refl, ◌∙◌, ap, arith}
use Rattle.std.specs.Prelude.{slice_get}
use Rattle.std.proofs.lemmas.List.{append_assoc, length-take-le}
use Rattle.hw_region.specs.RegionBytes.{with_bytes_at}

slice_get-take_append : (xs ys : List ℕ) (n i : ℕ) → n ≤ length xs → i < n → slice_get (take n xs ++ ys) i ≡ slice_get xs i
slice_get-take_append [] ys n i inside before = absurd (omega (arith, inside, before))
slice_get-take_append (x ∷ xs) ys zero i inside before = absurd (omega (arith, before))
slice_get-take_append (x ∷ xs) ys (suc n) zero inside before = refl
slice_get-take_append (x ∷ xs) ys (suc n) (suc i) inside before = slice_get-take_append xs ys n i (omega (arith, inside)) (omega (arith, before))

pub slice_get-append_first : (xs ys : List ℕ) (i : ℕ) → i < length xs → slice_get (xs ++ ys) i ≡ slice_get xs i
slice_get-append_first [] ys i before = absurd (omega (arith, before))
slice_get-append_first (x ∷ xs) ys zero before = refl
slice_get-append_first (x ∷ xs) ys (suc i) before = slice_get-append_first xs ys i (omega (arith, before))

pub slice_get-append_second : (xs ys : List ℕ) (k i : ℕ) → k ≡ length xs + i → slice_get (xs ++ ys) k ≡ slice_get ys i
slice_get-append_second [] ys k i e = let same : k ≡ i = omega (arith, e) in ap (λ (j : ℕ). slice_get ys j) same
slice_get-append_second (x ∷ xs) ys zero i e = absurd (omega (arith, e))
slice_get-append_second (x ∷ xs) ys (suc k) i e = slice_get-append_second xs ys k i (omega (arith, e))

slice_get-drop : (xs : List ℕ) (n k i : ℕ) → k ≡ n + i → slice_get (drop n xs) i ≡ slice_get xs k
slice_get-drop xs zero k i e = let same : i ≡ k = omega (arith, e) in ap (λ (j : ℕ). slice_get xs j) same
slice_get-drop [] (suc n) k i e = refl
slice_get-drop (x ∷ xs) (suc n) zero i e = absurd (omega (arith, e))
slice_get-drop (x ∷ xs) (suc n) (suc k) i e = slice_get-drop xs n k i (omega (arith, e))

in_parts : (bytes others : List ℕ) (at place : ℕ)
    → slice_get (with_bytes_at bytes at others) place ≡ slice_get (take at bytes ++ (others ++ drop (at + length others) bytes)) place
in_parts bytes others at place = ap (λ (ys : List ℕ). slice_get ys place) (append_assoc (take at bytes) others (drop (at + length others) bytes))

pub place_before : (bytes others : List ℕ) (at place : ℕ) → at ≤ length bytes → place < at
    → slice_get (with_bytes_at bytes at others) place ≡ slice_get bytes place
place_before bytes others at place inside before =
    in_parts bytes others at place ∙ slice_get-take_append bytes (others ++ drop (at + length others) bytes) at place inside before

pub place_written : (bytes others : List ℕ) (at i : ℕ) → at ≤ length bytes → i < length others
    → slice_get (with_bytes_at bytes at others) (at + i) ≡ slice_get others i
place_written bytes others at i inside here =
    let front : length (take at bytes) ≡ at = length-take-le at bytes inside in
    in_parts bytes others at (at + i)
    ∙ slice_get-append_second (take at bytes) (others ++ drop (at + length others) bytes) (at + i) i (omega (arith, front))
    ∙ slice_get-append_first others (drop (at + length others) bytes) i here

pub place_after : (bytes others : List ℕ) (at place : ℕ) → at ≤ length bytes → at + length others ≤ place
    → slice_get (with_bytes_at bytes at others) place ≡ slice_get bytes place
place_after bytes others at place inside after =
    let front : length (take at bytes) ≡ at = length-take-le at bytes inside in
    in_parts bytes others at place
    ∙ slice_get-append_second (take at bytes) (others ++ drop (at + length others) bytes) place (place - at) (omega (arith, front, after))
    ∙ slice_get-append_second others (drop (at + length others) bytes) (place - at) (place - at - length others) (omega (arith, after))
    ∙ slice_get-drop bytes (at + length others) place (place - at - length others) (omega (arith, after))
