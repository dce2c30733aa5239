-- The numbers that operands are. A pointer is a number modulo 2 ^ 64, and an integer of a width is taken modulo 2 ^ width.
-- This project's choice.
use Rattle.std.specs.Prelude.{ℕ, zero, suc, ◌+◌, ◌%◌, ◌^◌, List, [], ◌∷◌, map, slice_index}
use Rattle.mi_code.specs.declared.operands.MiOperand.{MiOperand}
use Rattle.mi_code.specs.declared.operands.MiOperand.TheVariants.{Reg, Num, Global}
use Rattle.mi_code.specs.declared.operands.Width.{Width}
use Rattle.mi_code.specs.declared.operands.Width.TheVariants.{Int, Ptr}
use Rattle.ir_core.specs.Layout.{int_store_size}
use Rattle.global_tags.specs.declared.descriptor.Descriptor.{Descriptor}
use Rattle.global_tags.specs.GlobalPlaces.{global_number}
use Rattle.ir_machine.specs.State.{MachineSeen}

-- the number that an operand is, by the globals and the registers
abbrev pub operand_number : List Descriptor → List ℕ → MiOperand → ℕ
operand_number globals registers (Reg r) = slice_index registers r
operand_number globals registers (Num n) = n
operand_number globals registers (Global global off) = global_number globals global off

-- the second part of a pair: that of a register is in the next one, and that of a constant is 0
abbrev pub second_part : List ℕ → MiOperand → ℕ
second_part registers (Reg r) = slice_index registers (r + 1)
second_part registers (Num n) = 0
second_part registers (Global global off) = 0

-- the bits of a number
abbrev pub bits_in : Width → ℕ
bits_in (Int width) = width
bits_in Ptr = 64

-- the bytes of a number in memory
abbrev pub bytes_in : Width → ℕ
bytes_in width = int_store_size (bits_in width)

-- ---- of what a step sees

-- the number that an operand is
abbrev pub number_in : MachineSeen → MiOperand → ℕ
number_in s operand = operand_number s.shared.globals s.frame.registers operand

-- as an integer of a width
abbrev pub integer_in : MachineSeen → ℕ → MiOperand → ℕ
integer_in s width operand = number_in s operand % 2 ^ width

-- as a pointer
abbrev pub pointer_in : MachineSeen → MiOperand → ℕ
pointer_in s operand = number_in s operand % 2 ^ 64

abbrev pub numbers_in : MachineSeen → List MiOperand → List ℕ
numbers_in s operands = map (number_in s) operands

-- ---- arguments by their places, counted from 0

-- the number 0 if there is none
abbrev pub argument_at : List MiOperand → ℕ → MiOperand
argument_at [] k = Num 0
argument_at (arg ∷ args) zero = arg
argument_at (arg ∷ args) (suc k) = argument_at args k

abbrev pub integer_argument : MachineSeen → (width : ℕ) → List MiOperand → (k : ℕ) → ℕ
integer_argument s width args k = integer_in s width (argument_at args k)

abbrev pub pointer_argument : MachineSeen → List MiOperand → ℕ → ℕ
pointer_argument s args k = pointer_in s (argument_at args k)

-- a size or a number of a thread, which has 64 bits
abbrev pub long_argument : MachineSeen → List MiOperand → ℕ → ℕ
long_argument s args k = integer_argument s 64 args k

-- an `int`, which has 32 bits
abbrev pub int_argument : MachineSeen → List MiOperand → ℕ → ℕ
int_argument s args k = integer_argument s 32 args k
