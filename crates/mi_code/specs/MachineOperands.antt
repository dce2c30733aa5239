-- The machine registers and operands of those of the source. A pointer is its 64-bit number, and null is 0.
-- This project's choice.
use Rattle.std.specs.Prelude.{ℕ, zero, suc, ◌*◌, List, [], ◌∷◌, length, map, Option, Some, None}
use Rattle.ir_core.specs.declared.operands.Operand.{Operand}
use Rattle.ir_core.specs.declared.operands.Operand.TheVariants.{Reg, Int, Null, Global}
use Rattle.ir_core.specs.declared.operands.Placed.{Placed}
use Rattle.ir_core.specs.declared.ir_module.Function.{Function}
use Rattle.mi_code.specs.declared.operands.MiOperand.{MiOperand}
use Rattle.mi_code.specs.declared.operands.MiOperand.TheVariants.{Reg as MachineRegister, Num, Global as GlobalAddress}

-- the machine register of a register. The one after it holds the bit of a pair
abbrev pub machine_register : ℕ → ℕ
machine_register r = 2 * r

-- the machine operand of an operand
abbrev pub machine_operand : Operand → MiOperand
machine_operand (Reg r) = MachineRegister (machine_register r)
machine_operand (Int n) = Num n
machine_operand Null = Num 0
machine_operand (Global global off) = GlobalAddress global off

abbrev pub operand_of : Placed → MiOperand
operand_of placed = machine_operand placed.operand

abbrev pub operands_of : List Placed → List MiOperand
operands_of args = map operand_of args

-- an argument by its place, counted from 0; a call that was accepted has it
abbrev pub argument : List Placed → ℕ → MiOperand
argument [] k = Num 0
argument (arg ∷ args) zero = operand_of arg
argument (arg ∷ args) (suc k) = argument args k

-- how many machine registers a frame of a function has
abbrev pub registers_of : Function → ℕ
registers_of f = 2 * length f.regs

-- The machine register of an instruction's result. A result without a register goes to the one after the last, which no frame
-- has: a write to it changes nothing.
abbrev pub result_register : Function → Option ℕ → ℕ
result_register f None = registers_of f
result_register f (Some r) = machine_register r

-- the machine register of a call's result, if it has one
abbrev pub call_result : Option ℕ → Option ℕ
call_result None = None
call_result (Some r) = Some (machine_register r)
