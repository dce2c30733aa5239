-- Laws of two's complement: what the code's 128 bits hold is the signed number, and what is left of it in a width.
use Rattle.std.proofs.Common.{◌≡◌, ℕ, zero, suc, ◌+◌, ◌-◌, ◌*◌, ◌%◌, ◌^◌, ◌<◌, ◌≤◌, ℤ, pos, negsuc, ◌+ℤ◌, ◌-ℤ◌, true, false, ltb, refl, sym, ◌∙◌, ap, inl, inr, arith, pow_pos, FitsSigned, unsigned_abs, int_lt, ltb-true, to_z-of_z}
use Rattle.std.specs.Int.{cast_signed, cast_unsigned, w128, int_rem_euclid}
use Rattle.std.proofs.lemmas.Int.{int_rem_euclid_is}
use Rattle.std.proofs.lemmas.Bool.{cases_lt, cond_below, cond_above}
use lib.Signed.{mag}
use Rattle.ir_arith.specs.TwosComplement.{signed_of, unsigned_of, fits_signed}
use Rattle.ir_arith.proofs.Residues.{pow_half, pow_upto_128, pow_above}

-- a difference of two naturals, below 0 and from 0 on
pub pos-sub-below : (a b : ℕ) → a < b → pos a -ℤ pos b ≡ negsuc (b - suc a)
pos-sub-below a zero h = absurd (omega arith)
pos-sub-below a (suc b) h = sym (cond_below a (suc b) (negsuc (suc b - suc a)) (pos (a - suc b)) h)

pub pos-sub-above : (a b : ℕ) → b ≤ a → pos a -ℤ pos b ≡ pos (a - b)
pos-sub-above a zero h = ap pos (omega arith)
pos-sub-above a (suc b) h = sym (cond_above a (suc b) (negsuc (suc b - suc a)) (pos (a - suc b)) (pos (a - suc b)) h refl)

-- the signed number of a value whose sign bit is 0, and of one whose sign bit is 1
pub signed_of-low : (w a : ℕ) → a < 2 ^ (w - 1) → signed_of w a ≡ pos a
unfolding signed_of
signed_of-low w a h = sym (cond_below a (2 ^ (w - 1)) (pos a) (pos a -ℤ pos (2 ^ w)) h)

pub signed_of-high : (w a : ℕ) → 2 ^ (w - 1) ≤ a → a < 2 ^ w → signed_of w a ≡ negsuc (2 ^ w - suc a)
unfolding signed_of
signed_of-high w a h below =
    sym (cond_above a (2 ^ (w - 1)) (pos a) (pos a -ℤ pos (2 ^ w)) (pos a -ℤ pos (2 ^ w)) h refl) ∙ pos-sub-below a (2 ^ w) below

-- a result that the code holds in 128 bits
pub held : (z r : ℤ) → mag r < 2 ^ 127 → r ≡ z → cast_signed w128 (cast_unsigned w128 r) ≡ z
held z r fits e = to_z-of_z {w = w128} {z = r} (record { sfits = fits }) ∙ e

pub held_fit : (z r : ℤ) → FitsSigned w128 z → r ≡ z → cast_signed w128 (cast_unsigned w128 r) ≡ z
held_fit z r fits e = ap (λ y. cast_signed w128 (cast_unsigned w128 y)) e ∙ to_z-of_z {w = w128} {z = z} fits

-- the signed numbers of a width are in its range
pub mag-signed_of : (w a : ℕ) → 1 ≤ w → a < 2 ^ w → mag (signed_of w a) < 2 ^ (w - 1)
mag-signed_of w a one below =
    let half = pow_half w one in
    elim (cases_lt a (2 ^ (w - 1))) [
      | inl low ↦ rw (signed_of-low w a low) low
      | inr high ↦ rw (signed_of-high w a high below) (omega arith)
    ]

pub signed_of-fits_128 : (w a : ℕ) → 1 ≤ w → w ≤ 128 → a < 2 ^ w → FitsSigned w128 (signed_of w a)
signed_of-fits_128 w a one top below =
    let half = pow_half w one in let whole = pow_upto_128 w top in let small = mag-signed_of w a one below in
    record { sfits = omega arith }

-- what the code makes of a value whose sign bit is 0, and of one whose sign bit is 1
pub cast_signed-low : (w a : ℕ) → 1 ≤ w → w ≤ 128 → a < 2 ^ (w - 1) → cast_signed w128 a ≡ signed_of w a
cast_signed-low w a one top low =
    let half = pow_half w one in let whole = pow_upto_128 w top in
    rw (signed_of-low w a low) (sym (cond_below a (2 ^ 127) (pos a) (negsuc (2 ^ 128 - suc a)) (omega arith)))

pub cast_signed-high : (w a n : ℕ) → 1 ≤ w → w ≤ 128 → 2 ^ (w - 1) ≤ a → a < 2 ^ w → n ≡ a + (2 ^ 128 - 1 - (2 ^ w - 1)) → cast_signed w128 n ≡ signed_of w a
cast_signed-high w a n one top high below e =
    let half = pow_half w one in let whole = pow_upto_128 w top in
    let same : 2 ^ 128 - suc n ≡ 2 ^ w - suc a = omega arith in
    rw (signed_of-high w a high below)
    (sym (cond_above n (2 ^ 127) (pos n) (negsuc (2 ^ 128 - suc n)) (negsuc (2 ^ w - suc a)) (omega arith) (ap negsuc (sym same))))

rem-unsigned_of : (w : ℕ) (z : ℤ) → unsigned_abs (int_rem_euclid z (pos (2 ^ w))) ≡ unsigned_of w z
unfolding unsigned_of
rem-unsigned_of w (pos n) = refl
rem-unsigned_of w (negsuc n) = refl

-- a number that is some multiple of 2 ^ w short of the natural m
pub unsigned_of_is : (w k m : ℕ) (z : ℤ) → z +ℤ pos (k * 2 ^ w) ≡ pos m → unsigned_of w z ≡ m % 2 ^ w
unsigned_of_is w k m z e =
    sym (rem-unsigned_of w z) ∙ ap unsigned_abs (int_rem_euclid_is z (pos (2 ^ w)) (2 ^ w) k m (pow_pos w) refl e)

-- the same, of a natural, and of a number below 0
pub unsigned_of-pos : (w n : ℕ) → unsigned_of w (pos n) ≡ n % 2 ^ w
unfolding unsigned_of
unsigned_of-pos w n = refl

pub unsigned_of-negsuc : (w n k m : ℕ) → m + suc n ≡ k * 2 ^ w → unsigned_of w (negsuc n) ≡ m % 2 ^ w
unsigned_of-negsuc w n k m e =
    unsigned_of_is w k m (negsuc n)
    (sym (cond_above (k * 2 ^ w) (suc n) (negsuc (suc n - suc (k * 2 ^ w))) (pos (k * 2 ^ w - suc n)) (pos m) (omega arith) (ap pos (omega arith))))

-- the low bits of a signed number of 128 bits
pub unsigned_of-cast : (w : ℕ) (z : ℤ) → w ≤ 128 → FitsSigned w128 z → cast_unsigned w128 z % 2 ^ w ≡ unsigned_of w z
unsigned_of-cast w (pos n) top fits = sym (unsigned_of-pos w n)
unsigned_of-cast w (negsuc n) top fits =
    let small = fits.sfits in let above = pow_above w top in
    sym (unsigned_of-negsuc w n (2 ^ (128 - w)) (2 ^ 128 - suc n) (omega arith))

-- the code's test of the signed range, on the bits of a number below 0 and of another one
pub fits_signed-negative : (w b l : ℕ) (z held_z : ℤ) → held_z ≡ z → b ≡ cast_unsigned w128 held_z → int_lt held_z (pos 0) ≡ true
    → FitsSigned w128 z → l ≡ 2 ^ (w - 1) → ltb (2 ^ 128 - 1 - b) l ≡ fits_signed w z
unfolding fits_signed
fits_signed-negative w b l (pos n) held_z same is_bits below fits is_least =
    absurd (omega (arith, ltb-true n 0 (ap (λ z. int_lt z (pos 0)) (sym same) ∙ below)))
fits_signed-negative w b l (negsuc n) held_z same is_bits below fits is_least =
    let small = fits.sfits in
    let bits : b ≡ 2 ^ 128 - suc n = is_bits ∙ ap (cast_unsigned w128) same in
    let back : 2 ^ 128 - 1 - b ≡ n = omega arith in
    rw (back, is_least) refl

pub fits_signed-natural : (w b l : ℕ) (z held_z : ℤ) → held_z ≡ z → b ≡ cast_unsigned w128 held_z → int_lt held_z (pos 0) ≡ false
    → l ≡ 2 ^ (w - 1) → ltb b l ≡ fits_signed w z
unfolding fits_signed
fits_signed-natural w b l (pos n) held_z same is_bits above is_least =
    let bits : b ≡ n = is_bits ∙ ap (cast_unsigned w128) same in
    rw (bits, is_least) refl
fits_signed-natural w b l (negsuc n) held_z same is_bits above is_least =
    let clash : true ≡ false = ap (λ z. int_lt z (pos 0)) (sym same) ∙ above in cc
