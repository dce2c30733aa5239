-- Laws of counts: what the machine counts in 128 bits, as counts at the width.
use Rattle.std.proofs.Common.{◌≡◌, ℕ, zero, suc, ◌+◌, ◌-◌, ◌*◌, ◌/◌, ◌%◌, ◌^◌, ◌<◌, ◌≤◌, min, refl, ◌∙◌, ap, inl, inr, arith, pow-suc}
use Rattle.std.proofs.Math.Nat.{pow-le-pow_right}
use Rattle.std.proofs.lemmas.Nat.{leading_length, leading_le, div_below}
use Rattle.std.proofs.lemmas.Bool.{cases_order}
use lib.Count.{ones, ones_in, ones_step, count_leading_zeros, count_trailing_zeros, under}

pub below_pow : (w : ℕ) → w < 2 ^ w
below_pow zero = omega arith
below_pow (suc w) = omega (arith, below_pow w, pow-suc 2 w)

-- a number of k digits has all its ones among them
pub ones_among : (k a : ℕ) → a < 2 ^ k → ones a ≡ ones_in k a
unfolding ones_in ones
ones_among zero a h = let e : a ≡ 0 = omega arith in rw e refl
ones_among (suc k) a h =
    ones_step a ∙ ap (λ t. a % 2 + t) (ones_among k (a / 2) (div_below a 2 (2 ^ k) (omega arith) (omega (arith, pow-suc 2 k))))

same_length : (m n a : ℕ) → m < n → a < 2 ^ m → 2 ^ n ≤ 2 * a + 1 → ⊥
same_length m n a less small large =
    let more : 2 ^ suc m ≤ 2 ^ n = pow-le-pow_right {n = 2} (omega arith) less in
    omega (arith, pow-suc 2 m)

-- each digit more has one leading zero more
pub leading_zeros_wider : (k w a : ℕ) → w ≤ k → a < 2 ^ w → count_leading_zeros k a ≡ (k - w) + count_leading_zeros w a
leading_zeros_wider k w a wider small =
    let more : 2 ^ w ≤ 2 ^ k = pow-le-pow_right {n = 2} (omega arith) wider in
    let whole = leading_length k a (omega arith) in
    let part = leading_length w a small in
    elim (cases_order whole.0 part.0) [
      | inl same ↦ omega (arith, whole.1, part.1)
      | inr other ↦ elim other [
        | inl less ↦ absurd (same_length whole.0 part.0 a less whole.2 part.3)
        | inr greater ↦ absurd (same_length part.0 whole.0 a greater part.2 whole.3)
      ]
    ]

pub leading_zeros_within : (k w a : ℕ) → w ≤ k → a < 2 ^ w → k - w ≤ count_leading_zeros k a
leading_zeros_within k w a wider small = omega (arith, leading_zeros_wider k w a wider small)

pub leading_zeros_at : (k w a : ℕ) → w ≤ k → a < 2 ^ w → count_leading_zeros k a - (k - w) ≡ count_leading_zeros w a
leading_zeros_at k w a wider small = omega (arith, leading_zeros_wider k w a wider small)

pub leading_zeros_below : (k w a : ℕ) → w ≤ k → a < 2 ^ w → count_leading_zeros k a - (k - w) < 2 ^ w
leading_zeros_below k w a wider small = omega (arith, leading_zeros_wider k w a wider small, leading_le w a, below_pow w)

under_min : (d t u k : ℕ) → min t k ≡ u → min (under d t) (suc k) ≡ under d u
under_min zero t u k h = omega arith
under_min (suc d) t u k h = omega arith

-- the trailing zeros among the lowest k digits
pub trailing_zeros_among : (s k a : ℕ) → k ≤ s → min (count_trailing_zeros s a) k ≡ count_trailing_zeros k a
unfolding count_trailing_zeros
trailing_zeros_among s zero a h = omega arith
trailing_zeros_among zero (suc k) a h = absurd (omega arith)
trailing_zeros_among (suc s) (suc k) a h =
    under_min (a % 2) (count_trailing_zeros s (a / 2)) (count_trailing_zeros k (a / 2)) k (trailing_zeros_among s k (a / 2) (omega arith))

pub min_below_pow : (n w : ℕ) → min n w < 2 ^ w
min_below_pow n w = omega (arith, below_pow w)
