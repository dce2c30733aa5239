-- Laws of the signed minimum and maximum and of the absolute value.
use Rattle.std.proofs.Common.{◌≡◌, ℕ, ◌-◌, ◌^◌, ◌<◌, ◌≤◌, ℤ, true, false, int_le, unsigned_abs, refl, sym, ◌∙◌, ap, ap₂, inl, inr, arith}
use Rattle.std.proofs.lemmas.Bool.{cases_lt}
use Rattle.ir_arith.specs.BitIntrinsics.{smin_result, smax_result, abs_result}
use Rattle.ir_arith.specs.TwosComplement.{signed_of}
use Rattle.ir_arith.proofs.Residues.{pow_half}
use Rattle.ir_arith.proofs.TwosComplementLaws.{signed_of-low, signed_of-high}

-- x and y are the numbers that the code compares
pub smin_result-first : (w a b : ℕ) (x y : ℤ) → x ≡ signed_of w a → y ≡ signed_of w b → int_le x y ≡ true → a ≡ smin_result w a b
unfolding smin_result
smin_result-first w a b x y p q first = rw (ap₂ int_le (sym p) (sym q) ∙ first) refl

pub smin_result-second : (w a b : ℕ) (x y : ℤ) → x ≡ signed_of w a → y ≡ signed_of w b → int_le x y ≡ false → b ≡ smin_result w a b
unfolding smin_result
smin_result-second w a b x y p q second = rw (ap₂ int_le (sym p) (sym q) ∙ second) refl

pub smax_result-second : (w a b : ℕ) (x y : ℤ) → x ≡ signed_of w a → y ≡ signed_of w b → int_le x y ≡ true → b ≡ smax_result w a b
unfolding smax_result
smax_result-second w a b x y p q second = rw (ap₂ int_le (sym p) (sym q) ∙ second) refl

pub smax_result-first : (w a b : ℕ) (x y : ℤ) → x ≡ signed_of w a → y ≡ signed_of w b → int_le x y ≡ false → a ≡ smax_result w a b
unfolding smax_result
smax_result-first w a b x y p q first = rw (ap₂ int_le (sym p) (sym q) ∙ first) refl

pub abs_result-is : (w a : ℕ) (x : ℤ) → x ≡ signed_of w a → unsigned_abs x ≡ abs_result w a
unfolding abs_result
abs_result-is w a x p = ap unsigned_abs p

pub abs_result-below : (w a : ℕ) → 1 ≤ w → a < 2 ^ w → abs_result w a < 2 ^ w
unfolding abs_result
abs_result-below w a one below =
    let half = pow_half w one in
    elim (cases_lt a (2 ^ (w - 1))) [
      | inl low ↦ rw (signed_of-low w a low) below
      | inr high ↦ rw (signed_of-high w a high below) (omega arith)
    ]
