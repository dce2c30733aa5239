-- The condition codes of integer comparisons (LLVM Language Reference, "'icmp' Instruction").
use Rattle.std.specs.Prelude.{ℕ, Bool, not, ◌==◌, nat_lt, nat_le, int_lt, int_le}
use Rattle.hw_base.specs.declared.operators.Pred.{Pred}
use Rattle.hw_base.specs.declared.operators.Pred.TheVariants.{Eq, Ne, Ugt, Uge, Ult, Ule, Sgt, Sge, Slt, Sle}
use Rattle.ir_arith.specs.TwosComplement.{signed_of}

-- the table: the `u` codes compare the values, and the `s` codes the signed numbers that they stand for
abbrev pub compare_result : Pred → ℕ → ℕ → ℕ → Bool
compare_result Eq width a b = a == b
compare_result Ne width a b = not (a == b)
compare_result Ugt width a b = nat_lt b a
compare_result Uge width a b = nat_le b a
compare_result Ult width a b = nat_lt a b
compare_result Ule width a b = nat_le a b
compare_result Sgt width a b = int_lt (signed_of width b) (signed_of width a)
compare_result Sge width a b = int_le (signed_of width b) (signed_of width a)
compare_result Slt width a b = int_lt (signed_of width a) (signed_of width b)
compare_result Sle width a b = int_le (signed_of width a) (signed_of width b)
