-- The steps on numbers alone (LLVM Language Reference, "Binary Operations", "Bitwise Binary Operations", "Conversion
-- Operations", "'icmp' Instruction", "'select' Instruction", "'freeze' Instruction", "'extractvalue' Instruction", and the
-- intrinsics on integers). Operands are taken modulo 2 ^ width, those of `select` and `freeze` as they are. Pointers are
-- compared as numbers of 64 bits.
use Rattle.std.specs.Prelude.{ℕ, ◌==◌, if◌then◌else◌, List, Result, Ok, Err}
use Rattle.hw_base.specs.Bits.{bit_of, is_set}
use Rattle.hw_base.specs.declared.endings.Trap.{Trap}
use Rattle.hw_base.specs.declared.operators.BinOp.{BinOp}
use Rattle.hw_base.specs.declared.operators.BitOp.{BitOp}
use Rattle.hw_base.specs.declared.operators.CastOp.{CastOp}
use Rattle.hw_base.specs.declared.operators.OverOp.{OverOp}
use Rattle.hw_base.specs.declared.operators.Pred.{Pred}
use Rattle.hw_base.specs.declared.pointers.Site.{Site}
use Rattle.ir_arith.specs.Binary.{binary_result}
use Rattle.ir_arith.specs.BitIntrinsics.{bits_result}
use Rattle.ir_arith.specs.Comparison.{compare_result}
use Rattle.ir_arith.specs.Conversion.{cast_result}
use Rattle.ir_arith.specs.Overflow.{overflow_result}
use Rattle.mi_code.specs.declared.operands.MiOperand.{MiOperand}
use Rattle.mi_code.specs.declared.operands.Width.{Width}
use Rattle.ir_machine.specs.State.{MachineSeen, MachineOutcome}
use Rattle.ir_machine.specs.Operands.{number_in, integer_in, integer_argument, second_part, bits_in}
use Rattle.ir_machine.specs.StepEnds.{gives, gives_pair, traps}

-- a result goes to a register, and a trap ends the run
abbrev pub gives_or_traps : MachineSeen → Site → ℕ → Result ℕ Trap → MachineOutcome
gives_or_traps s site to (Ok n) = gives s to n
gives_or_traps s site to (Err trap) = traps s site trap

unfoldable pub binary_step : MachineSeen → Site → BinOp → (width to : ℕ) → (a b : MiOperand) → MachineOutcome
binary_step s site op width to a b = gives_or_traps s site to (binary_result op width (integer_in s width a) (integer_in s width b))

unfoldable pub icmp_step : MachineSeen → Pred → Width → (to : ℕ) → (a b : MiOperand) → MachineOutcome
icmp_step s pred width to a b =
    gives s to (bit_of (compare_result pred (bits_in width) (integer_in s (bits_in width) a) (integer_in s (bits_in width) b)))

unfoldable pub cast_step : MachineSeen → CastOp → (from width to : ℕ) → MiOperand → MachineOutcome
cast_step s op from width to a = gives s to (cast_result op from width (integer_in s from a))

unfoldable pub bits_step : MachineSeen → BitOp → (width to : ℕ) → List MiOperand → MachineOutcome
bits_step s op width to args =
    gives s to (bits_result op width (integer_argument s width args 0) (integer_argument s width args 1) (integer_argument s width args 2))

unfoldable pub overflow_step : MachineSeen → OverOp → (width to : ℕ) → (a b : MiOperand) → MachineOutcome
overflow_step s op width to a b =
    let pair = overflow_result op width (integer_in s width a) (integer_in s width b) in gives_pair s to pair.0 pair.1

unfoldable pub select_step : MachineSeen → (to : ℕ) → (cond a b : MiOperand) → MachineOutcome
select_step s to cond a b = gives s to (if is_set (number_in s cond) then number_in s a else number_in s b)

unfoldable pub freeze_step : MachineSeen → (to : ℕ) → MiOperand → MachineOutcome
freeze_step s to a = gives s to (number_in s a)

-- part 1 is the second one, and any other number means the first
unfoldable pub extract_step : MachineSeen → (to : ℕ) → MiOperand → (part : ℕ) → MachineOutcome
extract_step s to pair part = gives s to (if part == 1 then second_part s.frame.registers pair else number_in s pair)
