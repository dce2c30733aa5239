-- The operations of `atomicrmw` on integers (LLVM Language Reference, "'atomicrmw' Instruction").
use Rattle.std.specs.Prelude.{ℕ, ◌-◌, ◌^◌, min, max, bit_and, bit_or, bit_xor}
use Rattle.hw_base.specs.declared.operators.RmwOp.{RmwOp}
use Rattle.hw_base.specs.declared.operators.RmwOp.TheVariants.{Xchg, Add, Sub, And, Nand, Or, Xor, Max, Min, UMax, UMin}
use Rattle.ir_arith.specs.Binary.{add_result, sub_result}
use Rattle.ir_arith.specs.BitIntrinsics.{smin_result, smax_result}

-- the bits of a value in the other state: what is left of the greatest value of the width
abbrev pub complement : ℕ → ℕ → ℕ
complement width a = 2 ^ width - 1 - a

-- the table: what is stored, by the old value in memory and the operand
abbrev pub rmw_result : RmwOp → ℕ → ℕ → ℕ → ℕ
rmw_result Xchg width old operand = operand
rmw_result Add width old operand = add_result width old operand
rmw_result Sub width old operand = sub_result width old operand
rmw_result And width old operand = bit_and old operand
rmw_result Nand width old operand = complement width (bit_and old operand)
rmw_result Or width old operand = bit_or old operand
rmw_result Xor width old operand = bit_xor old operand
rmw_result Max width old operand = smax_result width old operand
rmw_result Min width old operand = smin_result width old operand
rmw_result UMax width old operand = max old operand
rmw_result UMin width old operand = min old operand
