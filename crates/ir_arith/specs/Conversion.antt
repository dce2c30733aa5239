-- The conversions between integer types (LLVM Language Reference, "Conversion Operations").
use Rattle.std.specs.Prelude.{ℕ, ◌%◌, ◌^◌, ◌<◌}
use Rattle.hw_base.specs.declared.operators.CastOp.{CastOp}
use Rattle.hw_base.specs.declared.operators.CastOp.TheVariants.{Trunc, ZExt, SExt}
use Rattle.ir_arith.specs.TwosComplement.{signed_of, unsigned_of}

-- the widths that the reference allows: `trunc` goes to a narrower type, `zext` and `sext` go to a wider one
abbrev pub IsConversion : CastOp → ℕ → ℕ → Type 0
IsConversion Trunc from to = to < from
IsConversion ZExt from to = from < to
IsConversion SExt from to = from < to

-- the table: `trunc` keeps the low bits, `zext` keeps the value, and `sext` keeps the signed number
abbrev pub cast_result : CastOp → ℕ → ℕ → ℕ → ℕ
cast_result Trunc from to a = a % 2 ^ to
cast_result ZExt from to a = a
cast_result SExt from to a = unsigned_of to (signed_of from a)
