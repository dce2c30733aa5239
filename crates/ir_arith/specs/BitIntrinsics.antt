-- The intrinsics on bits and the integer intrinsics without overflow (LLVM Language Reference, "Bit Manipulation Intrinsics", "Standard
-- C/C++ Library Intrinsics" and "'llvm.expect' Intrinsic").
use Rattle.std.specs.Prelude.{ℕ, zero, suc, ◌+◌, ◌*◌, ◌/◌, ◌%◌, ◌^◌, min, max, unsigned_abs, int_le, if◌then◌else◌}
use Rattle.std.specs.Int.Count.{ones_in, count_leading_zeros, count_trailing_zeros}
use Rattle.hw_base.specs.declared.operators.BitOp.{BitOp}
use Rattle.hw_base.specs.declared.operators.BitOp.TheVariants.{BSwap, CtPop, CtLz, CtTz, FShl, FShr, SMin, SMax, UMin, UMax, Abs, Expect}
use Rattle.ir_arith.specs.TwosComplement.{signed_of}

-- the lowest `count` bytes of a number in the opposite order: the lowest byte becomes the highest
unfoldable pub reversed_bytes : ℕ → ℕ → ℕ
reversed_bytes zero a = 0
reversed_bytes (suc count) a = a % 256 * 256 ^ count + reversed_bytes count (a / 256)

-- "'llvm.bswap.*' Intrinsics": the bytes of the value in the opposite order
unfoldable pub bswap_result : ℕ → ℕ → ℕ
bswap_result width a = reversed_bytes (width / 8) a

-- "'llvm.ctpop.*' Intrinsic": how many of the `width` bits are 1
abbrev pub ctpop_result : ℕ → ℕ → ℕ
ctpop_result width a = ones_in width a

-- "'llvm.ctlz.*' Intrinsic": how many of the `width` bits are 0 above the highest 1, and all of them for 0
abbrev pub ctlz_result : ℕ → ℕ → ℕ
ctlz_result width a = count_leading_zeros width a

-- "'llvm.cttz.*' Intrinsic": how many of the `width` bits are 0 below the lowest 1, and all of them for 0
abbrev pub cttz_result : ℕ → ℕ → ℕ
cttz_result width a = count_trailing_zeros width a

-- "'llvm.fshl.*' Intrinsic": a above b in twice the width, shifted left by c modulo the width, of which the top half is kept
unfoldable pub fshl_result : ℕ → ℕ → ℕ → ℕ → ℕ
fshl_result width a b c = (a * 2 ^ width + b) * 2 ^ (c % width) / 2 ^ width % 2 ^ width

-- "'llvm.fshr.*' Intrinsic": a above b in twice the width, shifted right by c modulo the width, of which the bottom half is kept
unfoldable pub fshr_result : ℕ → ℕ → ℕ → ℕ → ℕ
fshr_result width a b c = (a * 2 ^ width + b) / 2 ^ (c % width) % 2 ^ width

-- "'llvm.smin.*' Intrinsic": the value whose signed number is smaller
unfoldable pub smin_result : ℕ → ℕ → ℕ → ℕ
smin_result width a b = if int_le (signed_of width a) (signed_of width b) then a else b

-- "'llvm.smax.*' Intrinsic": the value whose signed number is greater
unfoldable pub smax_result : ℕ → ℕ → ℕ → ℕ
smax_result width a b = if int_le (signed_of width a) (signed_of width b) then b else a

-- "'llvm.abs.*' Intrinsic": the absolute value of the signed number. That of the least number is the least number
unfoldable pub abs_result : ℕ → ℕ → ℕ
abs_result width a = unsigned_abs (signed_of width a)

-- the table. An argument that isn't named is ignored: one that the intrinsic doesn't have, the flag of `ctlz`, `cttz` and `abs`, and the
-- second argument of `expect`. `ctlz` and `cttz` of 0 are the width, whatever the flag says
abbrev pub bits_result : BitOp → ℕ → ℕ → ℕ → ℕ → ℕ
bits_result BSwap width a _ _ = bswap_result width a
bits_result CtPop width a _ _ = ctpop_result width a
bits_result CtLz width a _ _ = ctlz_result width a
bits_result CtTz width a _ _ = cttz_result width a
bits_result FShl width a b c = fshl_result width a b c
bits_result FShr width a b c = fshr_result width a b c
bits_result SMin width a b _ = smin_result width a b
bits_result SMax width a b _ = smax_result width a b
bits_result UMin width a b _ = min a b
bits_result UMax width a b _ = max a b
bits_result Abs width a _ _ = abs_result width a
bits_result Expect width a _ _ = a
