-- Laws of powers of two, and of what is left of a number modulo one.
use Rattle.std.proofs.Common.{◌≡◌, ℕ, zero, suc, ◌+◌, ◌-◌, ◌*◌, ◌/◌, ◌%◌, ◌^◌, ◌<◌, ◌≤◌, sym, ◌∙◌, ap, arith, bit_and, pow-suc, pow-add}
use Rattle.std.proofs.Math.Nat.{mod-mod_of_dvd, pow-le-pow_right, mul-mod_left}
use Rattle.std.proofs.lemmas.Nat.{and_mask, pow_below}
use Rattle.std.proofs.lemmas.Nat.Bits.{ones_shr}
use Rattle.std.proofs.lemmas.Nat.Gcd.{dvd_of_mod-eq-zero}

-- a width and its half
pub pow_half : (w : ℕ) → 1 ≤ w → 2 ^ w ≡ 2 * 2 ^ (w - 1)
pow_half zero h = absurd (omega arith)
pow_half (suc w) h =
    let e : suc w - 1 ≡ w = omega arith in
    rw e (omega (arith, pow-suc 2 w))

pub pow_upto_128 : (w : ℕ) → w ≤ 128 → 2 ^ w ≤ 2 ^ 128
pow_upto_128 w h = pow-le-pow_right {n = 2} (omega arith) h

-- the rest of 128 bits above a width
pub pow_above : (w : ℕ) → w ≤ 128 → 2 ^ (128 - w) * 2 ^ w ≡ 2 ^ 128
pow_above w h =
    let e : (128 - w) + w ≡ 128 = omega arith in
    sym (pow-add 2 (128 - w) w) ∙ ap (λ k. 2 ^ k) e

-- the greatest value of a width, as the code makes it
pub ones_of_width : (w : ℕ) → w ≤ 128 → (2 ^ 128 - 1) / 2 ^ (128 - w) ≡ 2 ^ w - 1
ones_of_width w h =
    let e : 128 - (128 - w) ≡ w = omega arith in
    ones_shr 128 (128 - w) (omega arith) ∙ ap (λ k. 2 ^ k - 1) e

-- the low bits, as the code takes them
pub and_ones : (w n m : ℕ) → m ≡ 2 ^ w - 1 → bit_and n m ≡ n % 2 ^ w
and_ones w n m e = rw e (and_mask n w)

-- the low bits of 128 low bits
pub mod_128 : (w n : ℕ) → w ≤ 128 → n % 2 ^ 128 % 2 ^ w ≡ n % 2 ^ w
mod_128 w n h =
    mod-mod_of_dvd (2 ^ w) n
    (dvd_of_mod-eq-zero (2 ^ w) (ap (λ k. k % 2 ^ w) (sym (pow_above w h)) ∙ mul-mod_left (2 ^ (128 - w)) (2 ^ w)))

pub below_wider : (m n a : ℕ) → m < n → a < 2 ^ m → a < 2 ^ n
below_wider m n a wider small = omega (arith, pow_below m n wider)
