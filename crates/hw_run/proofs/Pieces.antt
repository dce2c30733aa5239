-- Bytes taken from a list one after the other.
use Rattle.std.proofs.Common.{◌≡◌, ℕ, ◌+◌, ◌<◌, ◌≤◌, ◌⊎◌, inl, inr, List, [], ◌∷◌, ◌++◌, length, take, get_or, ap, sym, ◌∙◌, Some, None, arith}
use Rattle.std.specs.Prelude.{slice_get}
use Rattle.std.proofs.lemmas.List.{take_all, take_more}
use Rattle.std.proofs.lemmas.Option.{slice_get_cases, slice_get_within, get_or_from_slice_get}

past : (xs : List ℕ) (i : ℕ) → slice_get xs i ≡ None → length xs ≤ i
past xs i none = by (slice_get_cases xs i).1
  where
    by : ((x : ℕ) × (i < length xs) × (slice_get xs i ≡ Some x) × (get_or xs i x ≡ x)) ⊎ ((length xs ≤ i) × (slice_get xs i ≡ None)) → length xs ≤ i
    by (inl (x, lt, some, same)) = let wrong : None ≡ Some x = sym none ∙ some in absurd (cc)
    by (inr (le, same)) = le

-- there are no more bytes
pub take-past : (xs : List ℕ) (i count : ℕ) → slice_get xs i ≡ None → i ≤ count → take i xs ≡ take count xs
take-past xs i count none below =
    let all : length xs ≤ i = past xs i none in
    let more : length xs ≤ count = omega arith in
    take_all i xs all ∙ sym (take_all count xs more)

-- one more byte
pub take-next : (xs : List ℕ) (i x : ℕ) → slice_get xs i ≡ Some x → take (i + 1) xs ≡ take i xs ++ x ∷ []
take-next xs i x here =
    take_more xs i x (slice_get_within xs i x here) ∙ ap (λ (y : ℕ). take i xs ++ y ∷ []) (get_or_from_slice_get xs i x x here)
