-- Laws of numbers as bytes.
use Rattle.std.proofs.Common.{◌≡◌, ℕ, zero, suc, ◌+◌, ◌*◌, ◌/◌, ◌^◌, ◌<◌, ◌≤◌, length, refl, sym, ◌∙◌, ap, arith, pow-suc, pow-add}
use Rattle.std.proofs.Math.Nat.{div-lt_iff_lt-mul}
use Rattle.std.proofs.Math.Pow.{pow_mono}
use Rattle.hw_base.specs.Bytes.{le_bytes, le_number}

pub length-le_bytes : (count n : ℕ) → length (le_bytes count n) ≡ count
unfolding le_bytes
length-le_bytes zero n = refl
length-le_bytes (suc count) n = let rest : length (le_bytes count (n / 256)) ≡ count = length-le_bytes count (n / 256) in omega (arith, rest)

-- bytes enough spell the number
pub le_number-le_bytes : (count n : ℕ) → n < 256 ^ count → le_number (le_bytes count n) ≡ n
unfolding le_bytes le_number
le_number-le_bytes zero n small = omega arith
le_number-le_bytes (suc count) n small =
    let fewer : n < 256 ^ count * 256 = rw (sym (pow-suc 256 count)) small in
    let rest : n / 256 < 256 ^ count = (div-lt_iff_lt-mul {k = 256} {x = n} {y = 256 ^ count} (omega arith)).1 fewer in
    let spelled : le_number (le_bytes count (n / 256)) ≡ n / 256 = le_number-le_bytes count (n / 256) rest in
    rw spelled (omega arith)

pub pow-256 : (k : ℕ) → 256 ^ k ≡ 2 ^ (8 * k)
pow-256 zero = refl
pow-256 (suc k) =
    let e : 8 * suc k ≡ 8 * k + 8 = omega arith in
    pow-suc 256 k ∙ ap (λ n. n * 256) (pow-256 k) ∙ sym (pow-add 2 (8 * k) 8) ∙ ap (λ n. 2 ^ n) (sym e)

-- a number of a width lies in as many bytes as the width has, rounded up
pub below_bytes : (width n : ℕ) → n < 2 ^ width → n < 256 ^ ((width + 7) / 8)
below_bytes width n small =
    let wide : width ≤ 8 * ((width + 7) / 8) = omega arith in
    let most : 2 ^ width ≤ 2 ^ (8 * ((width + 7) / 8)) = pow_mono wide in
    let e : 256 ^ ((width + 7) / 8) ≡ 2 ^ (8 * ((width + 7) / 8)) = pow-256 ((width + 7) / 8) in
    omega (arith, most, small, e)
