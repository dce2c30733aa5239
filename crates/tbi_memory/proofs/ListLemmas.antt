-- An element of a list after one was written.
use Rattle.std.proofs.Common.{◌≡◌, ◌≢◌, ℕ, zero, suc, List, [], ◌∷◌, refl, ap}
use Rattle.std.specs.Prelude.{slice_get, slice_set, option_map}

pub slice_get-set_at : {A : Type 0} → (xs : List A) (i : ℕ) (y : A) → slice_get (slice_set xs i y) i ≡ option_map (λ _old. y) (slice_get xs i)
slice_get-set_at [] i y = refl
slice_get-set_at (x ∷ xs) zero y = refl
slice_get-set_at (x ∷ xs) (suc i) y = slice_get-set_at xs i y

pub slice_get-set_other : {A : Type 0} → (xs : List A) (i j : ℕ) (y : A) → j ≢ i → slice_get (slice_set xs i y) j ≡ slice_get xs j
slice_get-set_other [] i j y h = refl
slice_get-set_other (x ∷ xs) zero zero y h = absurd (h refl)
slice_get-set_other (x ∷ xs) zero (suc j) y h = refl
slice_get-set_other (x ∷ xs) (suc i) zero y h = refl
slice_get-set_other (x ∷ xs) (suc i) (suc j) y h = slice_get-set_other xs i j y (λ e. h (ap suc e))
