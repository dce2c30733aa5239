-- The front of what is left, and what is left after it.
use Rattle.std.proofs.Common.{◌≡◌, ℕ, ◌+◌, ◌-◌, List, ◌++◌, length, take, drop, sym}
use Rattle.std.proofs.lemmas.List.{drop-drop, take-append-drop, length-drop}
use Rattle.std.proofs.Math.Seq.{take-length}

-- all that is left
pub take_rest : (xs : List ℕ) (at : ℕ) → take (length xs - at) (drop at xs) ≡ drop at xs
take_rest xs at = rw (← length-drop at xs) (take-length (drop at xs))

-- a copied front and the rest are what was left
pub front_and_rest : (xs into : List ℕ) (at n : ℕ) → take n into ≡ take n (take (length xs - at) (drop at xs)) → drop at xs ≡ take n into ++ drop (at + n) xs
front_and_rest xs into at n same = rw (same, take_rest xs at, ← drop-drop n at xs) (sym (take-append-drop n (drop at xs)))
