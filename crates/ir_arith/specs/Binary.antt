-- The binary operators on integers (LLVM Language Reference, "Binary Operations" and "Bitwise Binary Operations"). Flags such as `nsw`
-- and `exact` are ignored. What the reference leaves undefined is fixed here: a division that it doesn't define ends the run with a
-- trap, and a shift by the width or more moves every bit out. Both are this project's choice.
use Rattle.std.specs.Prelude.{ℕ, ◌+◌, ◌-◌, ◌*◌, ◌/◌, ◌%◌, ◌^◌, min, ℤ, pos, neg_ℤ, ◌-ℤ◌, Bool, ◌&&◌, ◌==◌, if◌then◌else◌, int_div, int_rem, bit_and, bit_or, bit_xor, Result, Ok, Err}
use Rattle.std.specs.Int.{int_shr}
use Rattle.std.specs.Ordering.{int_eq}
use Rattle.hw_base.specs.declared.endings.Trap.{Trap}
use Rattle.hw_base.specs.declared.endings.Trap.TheVariants.{DivZero, DivOverflow}
use Rattle.hw_base.specs.declared.operators.BinOp.{BinOp}
use Rattle.hw_base.specs.declared.operators.BinOp.TheVariants.{Add, Sub, Mul, UDiv, SDiv, URem, SRem, Shl, LShr, AShr, And, Or, Xor}
use Rattle.ir_arith.specs.TwosComplement.{signed_of, unsigned_of}

-- "'add' Instruction": the sum modulo 2 ^ width
unfoldable pub add_result : ℕ → ℕ → ℕ → ℕ
add_result width a b = (a + b) % 2 ^ width

-- "'sub' Instruction": the difference modulo 2 ^ width
unfoldable pub sub_result : ℕ → ℕ → ℕ → ℕ
sub_result width a b = unsigned_of width (pos a -ℤ pos b)

-- "'mul' Instruction": the product modulo 2 ^ width
unfoldable pub mul_result : ℕ → ℕ → ℕ → ℕ
mul_result width a b = a * b % 2 ^ width

-- "'udiv' Instruction": the quotient rounded down
unfoldable pub udiv_result : ℕ → ℕ → Result ℕ Trap
udiv_result a b = if b == 0 then Err DivZero else Ok (a / b)

-- "'urem' Instruction": the remainder of that division
unfoldable pub urem_result : ℕ → ℕ → Result ℕ Trap
urem_result a b = if b == 0 then Err DivZero else Ok (a % b)

-- the least number of the width is divided by -1: the one signed division by another number than 0 whose quotient doesn't fit
unfoldable pub is_least_by_minus_one : ℕ → ℕ → ℕ → Bool
is_least_by_minus_one width a b =
    int_eq (signed_of width a) (neg_ℤ (pos (2 ^ (width - 1)))) && int_eq (signed_of width b) (neg_ℤ (pos 1))

-- a signed quotient or remainder, or the trap in its place
unfoldable pub signed_division : ℕ → ℕ → ℕ → ℤ → Result ℕ Trap
signed_division width a b exact =
    if b == 0 then Err DivZero else (if is_least_by_minus_one width a b then Err DivOverflow else Ok (unsigned_of width exact))

-- "'sdiv' Instruction": the signed quotient rounded towards zero
abbrev pub sdiv_result : ℕ → ℕ → ℕ → Result ℕ Trap
sdiv_result width a b = signed_division width a b (int_div (signed_of width a) (signed_of width b))

-- "'srem' Instruction": the remainder of that division, with the sign of the dividend
abbrev pub srem_result : ℕ → ℕ → ℕ → Result ℕ Trap
srem_result width a b = signed_division width a b (int_rem (signed_of width a) (signed_of width b))

-- "'shl' Instruction": a times 2 ^ b, modulo 2 ^ width. A shift by more than the width is one by the width, which leaves 0
unfoldable pub shl_result : ℕ → ℕ → ℕ → ℕ
shl_result width a b = a * 2 ^ min b width % 2 ^ width

-- "'lshr' Instruction": a divided by 2 ^ b and rounded down. A shift by more than the width is one by the width, which leaves 0
unfoldable pub lshr_result : ℕ → ℕ → ℕ → ℕ
lshr_result width a b = a / 2 ^ min b width

-- "'ashr' Instruction": the signed number divided by 2 ^ b and rounded down. A shift by more than the width is one by the width,
-- which leaves the sign bit in every place
unfoldable pub ashr_result : ℕ → ℕ → ℕ → ℕ
ashr_result width a b = unsigned_of width (int_shr (signed_of width a) (min b width))

-- the table
abbrev pub binary_result : BinOp → ℕ → ℕ → ℕ → Result ℕ Trap
binary_result Add width a b = Ok (add_result width a b)
binary_result Sub width a b = Ok (sub_result width a b)
binary_result Mul width a b = Ok (mul_result width a b)
binary_result UDiv width a b = udiv_result a b
binary_result SDiv width a b = sdiv_result width a b
binary_result URem width a b = urem_result a b
binary_result SRem width a b = srem_result width a b
binary_result Shl width a b = Ok (shl_result width a b)
binary_result LShr width a b = Ok (lshr_result width a b)
binary_result AShr width a b = Ok (ashr_result width a b)
binary_result And width a b = Ok (bit_and a b)
binary_result Or width a b = Ok (bit_or a b)
binary_result Xor width a b = Ok (bit_xor a b)
