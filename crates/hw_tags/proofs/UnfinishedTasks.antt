-- Laws of the list of unfinished tasks.
use Rattle.std.proofs.Common.{◌≡◌, ℕ, zero, suc, ◌+◌, Bool, true, false, List, [], ◌∷◌, Some, refl, ◌∙◌, ap, subst, arith}
use Rattle.std.specs.Prelude.{slice_get}
use Rattle.hw_tags.specs.Turn.{unfinished_from, unfinished_of}

unfinished_from-each : (from : ℕ) (finished : List Bool) (k : ℕ) → slice_get finished k ≡ Some false → (i : ℕ) × (slice_get (unfinished_from from finished) i ≡ Some (from + k))
unfolding unfinished_from
unfinished_from-each from [] k h = absurd cc
unfinished_from-each from (true ∷ finished) zero h = absurd cc
unfinished_from-each from (false ∷ finished) zero h = let number : from ≡ from + 0 = omega arith in (0, ap Some number)
unfinished_from-each from (true ∷ finished) (suc k) h =
    let (i, there) = unfinished_from-each (from + 1) finished k h in
    let number : from + 1 + k ≡ from + suc k = omega arith in
    (i, there ∙ ap Some number)
unfinished_from-each from (false ∷ finished) (suc k) h =
    let (i, there) = unfinished_from-each (from + 1) finished k h in
    let number : from + 1 + k ≡ from + suc k = omega arith in
    (suc i, there ∙ ap Some number)

unfinished_from-only : (from : ℕ) (finished : List Bool) (n i : ℕ) → slice_get (unfinished_from from finished) i ≡ Some n → (k : ℕ) × (n ≡ from + k) × (slice_get finished k ≡ Some false)
unfolding unfinished_from
unfinished_from-only from [] n i h = absurd cc
unfinished_from-only from (true ∷ finished) n i h =
    let (k, number, found) = unfinished_from-only (from + 1) finished n i h in
    (suc k, omega arith, found)
unfinished_from-only from (false ∷ finished) n zero h = let same : n ≡ from = cc in (0, omega arith, refl)
unfinished_from-only from (false ∷ finished) n (suc i) h =
    let (k, number, found) = unfinished_from-only (from + 1) finished n i h in
    (suc k, omega arith, found)

-- the number of each task that isn't finished is listed
pub unfinished_of-each : (finished : List Bool) (k : ℕ) → slice_get finished k ≡ Some false → (i : ℕ) × (slice_get (unfinished_of finished) i ≡ Some k)
unfinished_of-each finished k h =
    let (i, there) = unfinished_from-each 0 finished k h in
    let number : 0 + k ≡ k = omega arith in
    (i, there ∙ ap Some number)

-- and no other number is
pub unfinished_of-only : (finished : List Bool) (k i : ℕ) → slice_get (unfinished_of finished) i ≡ Some k → slice_get finished k ≡ Some false
unfinished_of-only finished k i h =
    let (j, number, found) = unfinished_from-only 0 finished k i h in
    let same : j ≡ k = omega arith in
    subst (λ (n : ℕ). slice_get finished n ≡ Some false) same found
