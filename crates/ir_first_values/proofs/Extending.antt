-- A value in 64 bits, as the code makes it.
use Rattle.std.proofs.Common.{◌≡◌, ℕ, suc, ◌-◌, ◌%◌, ◌^◌, ◌<◌, ◌≤◌, arith, ap, ◌∙◌, refl, pos, negsuc}
use Rattle.ir_arith.specs.TwosComplement.{signed_of, unsigned_of}
use Rattle.ir_arith.proofs.TwosComplementLaws.{signed_of-low, signed_of-high}

unsigned_of-pos : (n : ℕ) → unsigned_of 64 (pos n) ≡ n % 2 ^ 64
unfolding unsigned_of
unsigned_of-pos n = refl

unsigned_of-negsuc : (n : ℕ) → unsigned_of 64 (negsuc n) ≡ 2 ^ 64 - 1 - n % 2 ^ 64
unfolding unsigned_of
unsigned_of-negsuc n = refl

pub extended_low : (width n : ℕ) → n < 2 ^ (width - 1) → unsigned_of 64 (signed_of width n) ≡ n % 2 ^ 64
extended_low width n h = ap (unsigned_of 64) (signed_of-low width n h) ∙ unsigned_of-pos n

pub extended_high : (width n : ℕ) → 2 ^ (width - 1) ≤ n → n < 2 ^ width → unsigned_of 64 (signed_of width n) ≡ 2 ^ 64 - 1 - (2 ^ width - 1 - n) % 2 ^ 64
extended_high width n high below =
    let same : 2 ^ width - suc n ≡ 2 ^ width - 1 - n = omega arith in
    ap (unsigned_of 64) (signed_of-high width n high below) ∙ (unsigned_of-negsuc (2 ^ width - suc n) ∙ ap (λ m. 2 ^ 64 - 1 - m % 2 ^ 64) same)
