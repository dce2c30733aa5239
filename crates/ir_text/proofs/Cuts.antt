-- The parts of bytes that are cut at one, the first part first.
use Rattle.std.proofs.Common.{◌≡◌, ◌≢◌, ℕ, ◌+◌, ◌<◌, List, [], ◌∷◌, length, get_or, take, drop, eqb, eq-eqb, arith, subst, ◌∙◌}
use Rattle.std.specs.List.{slice_split, position_or_len}
use Rattle.std.proofs.lemmas.Bool.{ne_eqb}
use Rattle.std.proofs.lemmas.List.{get_or_default}
use Rattle.std.proofs.lemmas.List.Sums.{position_or_len_is}
use Rattle.std.proofs.lemmas.List.Splits.{slice_split_first, slice_split_none}

-- the first part ends at the first such byte
pub cut_there : (at : ℕ) (bytes : List ℕ) (i : ℕ) → i < length bytes → ((k : ℕ) → k < i → get_or bytes k 0 ≢ at) → get_or bytes i 0 ≡ at → slice_split (λ b. eqb b at) bytes ≡ take i bytes ∷ slice_split (λ b. eqb b at) (drop (i + 1) bytes)
cut_there at bytes i inside before here =
    let place : position_or_len (λ b. eqb b at) bytes ≡ i = position_or_len_is (λ b. eqb b at) bytes i 0 (omega arith) (λ k lt. ne_eqb _ _ (before k lt)) (λ _. eq-eqb _ _ here) in
    subst (λ n. n < length bytes → slice_split (λ b. eqb b at) bytes ≡ take n bytes ∷ slice_split (λ b. eqb b at) (drop (n + 1) bytes)) place (slice_split_first (λ b. eqb b at) bytes 0) inside

-- without one there is one part
pub cut_nowhere : (at : ℕ) (bytes : List ℕ) → ((k : ℕ) → k < length bytes → get_or bytes k 0 ≢ at) → slice_split (λ b. eqb b at) bytes ≡ bytes ∷ []
cut_nowhere at bytes none = slice_split_none (λ b. eqb b at) bytes (λ k d lt. ne_eqb _ _ (λ e. none k lt (get_or_default bytes k 0 d lt ∙ e)))
