-- The arithmetic intrinsics with overflow (LLVM Language Reference, "Arithmetic with Overflow Intrinsics").
use Rattle.std.specs.Prelude.{ℕ, ℤ, pos, ◌+ℤ◌, ◌-ℤ◌, ◌*ℤ◌, Bool, not}
use Rattle.hw_base.specs.declared.operators.OverOp.{OverOp}
use Rattle.hw_base.specs.declared.operators.OverOp.TheVariants.{SAdd, UAdd, SSub, USub, SMul, UMul}
use Rattle.ir_arith.specs.TwosComplement.{signed_of, unsigned_of, fits_signed, fits_unsigned}

-- the exact result: the `s` operations take the signed numbers that the values stand for, and the `u` operations the values
abbrev pub exact_result : OverOp → ℕ → ℕ → ℕ → ℤ
exact_result SAdd width a b = signed_of width a +ℤ signed_of width b
exact_result UAdd width a b = pos a +ℤ pos b
exact_result SSub width a b = signed_of width a -ℤ signed_of width b
exact_result USub width a b = pos a -ℤ pos b
exact_result SMul width a b = signed_of width a *ℤ signed_of width b
exact_result UMul width a b = pos a *ℤ pos b

-- whether a number is in the range of the operation's type
abbrev pub fits_result : OverOp → ℕ → ℤ → Bool
fits_result SAdd width z = fits_signed width z
fits_result UAdd width z = fits_unsigned width z
fits_result SSub width z = fits_signed width z
fits_result USub width z = fits_unsigned width z
fits_result SMul width z = fits_signed width z
fits_result UMul width z = fits_unsigned width z

-- the table: what is left of the exact result in the width, and whether it is out of range
abbrev pub overflow_result : OverOp → ℕ → ℕ → ℕ → ℕ × Bool
overflow_result op width a b =
    (unsigned_of width (exact_result op width a b), not (fits_result op width (exact_result op width a b)))
