-- The steps that compute a value from values (LLVM Language Reference, "Binary Operations", "Bitwise Binary Operations",
-- "Conversion Operations", "'icmp' Instruction", "'select' Instruction", "'freeze' Instruction", "'extractvalue' Instruction",
-- "Bit Manipulation Intrinsics" and "Arithmetic with Overflow Intrinsics"). A width is in bits.
use Rattle.std.specs.Prelude.{ℕ, Bool, ◌==◌, if◌then◌else◌, List, [], ◌∷◌, Option, Some, None, Result, Ok, Err}
use Rattle.hw_base.specs.Bits.{bit_of, is_set}
use Rattle.hw_base.specs.declared.accesses.Reason.TheVariants.{Compare}
use Rattle.hw_base.specs.declared.endings.Trap.{Trap}
use Rattle.hw_base.specs.declared.operators.BinOp.{BinOp}
use Rattle.hw_base.specs.declared.operators.BitOp.{BitOp}
use Rattle.hw_base.specs.declared.operators.CastOp.{CastOp}
use Rattle.hw_base.specs.declared.operators.OverOp.{OverOp}
use Rattle.hw_base.specs.declared.operators.Pred.{Pred}
use Rattle.hw_tags.specs.TaskRuns.{Stuck}
use Rattle.ir_core.specs.declared.types.IrType.{IrType}
use Rattle.ir_core.specs.declared.types.IrType.TheVariants.{Int, Ptr}
use Rattle.ir_arith.specs.Binary.{binary_result}
use Rattle.ir_arith.specs.BitIntrinsics.{bits_result}
use Rattle.ir_arith.specs.Comparison.{compare_result}
use Rattle.ir_arith.specs.Conversion.{cast_result}
use Rattle.ir_arith.specs.Overflow.{overflow_result}
use Rattle.ir_meaning.specs.Values.{Value, Integer, IntegerAndBit}
use Rattle.ir_meaning.specs.PointerComparison.{pointers_compared}
use Rattle.ir_meaning.specs.State.{SourceSeen, SourceOutcome}
use Rattle.ir_meaning.specs.Operands.{with_value, with_integer, with_pointer, with_pair, argument}
use Rattle.ir_meaning.specs.StepEnds.{gives, traps, goes_outside}

abbrev pub gives_or_traps : SourceSeen → Option ℕ → Result ℕ Trap → SourceOutcome
gives_or_traps s result (Ok n) = gives s result (Integer n)
gives_or_traps s result (Err trap) = traps s trap

-- a binary operator; a division that the reference doesn't define ends the run with a trap
unfoldable pub binary_step : SourceSeen → Option ℕ → BinOp → (width : ℕ) → Option Value → Option Value → SourceOutcome
binary_step s result op width a b =
    with_integer width a (λ x. with_integer width b (λ y. gives_or_traps s result (binary_result op width x y)))

-- the result of a comparison of pointers; if there is none the run goes outside the profile
abbrev pub gives_comparison : SourceSeen → Option ℕ → Option Bool → SourceOutcome
gives_comparison s result None = goes_outside s Compare
gives_comparison s result (Some answer) = gives s result (Integer (bit_of answer))

-- a comparison of two integers or of two pointers, by their type
unfoldable pub icmp_step : SourceSeen → Option ℕ → Pred → IrType → Option Value → Option Value → SourceOutcome
icmp_step s result pred (Int width) a b =
    with_integer width a (λ x. with_integer width b (λ y. gives s result (Integer (bit_of (compare_result pred width x y)))))
icmp_step s result pred Ptr a b =
    with_pointer a (λ p x. with_pointer b (λ q y. gives_comparison s result (pointers_compared s.shared.births pred p x q y)))
icmp_step s result pred type a b = Stuck

-- a conversion from one width to another
unfoldable pub cast_step : SourceSeen → Option ℕ → CastOp → (from to : ℕ) → Option Value → SourceOutcome
cast_step s result op from to a = with_integer from a (λ x. gives s result (Integer (cast_result op from to x)))

-- the first operand if the condition is set, else the second one
unfoldable pub select_step : SourceSeen → Option ℕ → Option Value → Option Value → Option Value → SourceOutcome
select_step s result cond a b = with_integer 1 cond (λ c. with_value (if is_set c then a else b) (λ value. gives s result value))

-- the operand
unfoldable pub freeze_step : SourceSeen → Option ℕ → Option Value → SourceOutcome
freeze_step s result a = with_value a (λ value. gives s result value)

-- part 0 or 1 of a pair
abbrev pub part_of_pair : (part n bit : ℕ) → ℕ
part_of_pair part n bit = if part == 1 then bit else n

unfoldable pub extract_step : SourceSeen → Option ℕ → Option ℕ → Option Value → SourceOutcome
extract_step s result None pair = Stuck
extract_step s result (Some part) pair = with_pair pair (λ n bit. gives s result (Integer (part_of_pair part n bit)))

-- an intrinsic on bits, by how many arguments the call has. One that isn't there is 0, and has no influence
unfoldable pub bits_step : SourceSeen → Option ℕ → BitOp → (width : ℕ) → List (Option Value) → SourceOutcome
bits_step s result op width (a ∷ []) = with_integer width a (λ x. gives s result (Integer (bits_result op width x 0 0)))
bits_step s result op width (a ∷ b ∷ []) =
    with_integer width a (λ x. with_integer width b (λ y. gives s result (Integer (bits_result op width x y 0))))
bits_step s result op width (a ∷ b ∷ c ∷ []) =
    with_integer width a (λ x. with_integer width b (λ y. with_integer width c (λ z. gives s result (Integer (bits_result op width x y z)))))
bits_step s result op width values = Stuck

abbrev pub gives_overflow : SourceSeen → Option ℕ → ℕ × Bool → SourceOutcome
gives_overflow s result r = gives s result (IntegerAndBit r.0 (bit_of r.1))

-- an intrinsic with overflow
unfoldable pub overflow_step : SourceSeen → Option ℕ → OverOp → (width : ℕ) → List (Option Value) → SourceOutcome
overflow_step s result op width values =
    with_integer width (argument values 0) (λ x. with_integer width (argument values 1) (λ y.
    gives_overflow s result (overflow_result op width x y)))
