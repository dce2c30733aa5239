-- How many tasks are unfinished, after one starts or finishes.
use Rattle.std.proofs.Common.{◌≡◌, ℕ, zero, suc, ◌+◌, ◌≤◌, Bool, true, false, List, [], ◌∷◌, ◌++◌, length, set, Some, refl, ap, arith}
use Rattle.std.specs.Prelude.{slice_get}
use Rattle.hw_tags.specs.Turn.{unfinished_from}

pub unfinished_from-few : (from : ℕ) (finished : List Bool) → length (unfinished_from from finished) ≤ length finished
unfolding unfinished_from
unfinished_from-few from [] = omega arith
unfinished_from-few from (true ∷ finished) = let rest : length (unfinished_from (from + 1) finished) ≤ length finished = unfinished_from-few (from + 1) finished in omega (arith, rest)
unfinished_from-few from (false ∷ finished) = let rest : length (unfinished_from (from + 1) finished) ≤ length finished = unfinished_from-few (from + 1) finished in omega (arith, rest)

pub unfinished_from-started : (from : ℕ) (finished : List Bool) → length (unfinished_from from (finished ++ false ∷ [])) ≡ length (unfinished_from from finished) + 1
unfolding unfinished_from
unfinished_from-started from [] = refl
unfinished_from-started from (true ∷ finished) = unfinished_from-started (from + 1) finished
unfinished_from-started from (false ∷ finished) =
    let rest : length (unfinished_from (from + 1) (finished ++ false ∷ [])) ≡ length (unfinished_from (from + 1) finished) + 1 = unfinished_from-started (from + 1) finished in
    omega (arith, rest)

pub unfinished_from-finished : (from : ℕ) (finished : List Bool) (task : ℕ) → slice_get finished task ≡ Some false
    → length (unfinished_from from finished) ≡ suc (length (unfinished_from from (set finished task true)))
unfolding unfinished_from
unfinished_from-finished from [] task h = absurd cc
unfinished_from-finished from (true ∷ finished) zero h = absurd cc
unfinished_from-finished from (false ∷ finished) zero h = refl
unfinished_from-finished from (true ∷ finished) (suc task) h = unfinished_from-finished (from + 1) finished task h
unfinished_from-finished from (false ∷ finished) (suc task) h = ap (λ (n : ℕ). suc n) (unfinished_from-finished (from + 1) finished task h)
