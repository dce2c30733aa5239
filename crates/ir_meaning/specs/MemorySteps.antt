-- The steps that read and write one value in memory (LLVM Language Reference, "'load' Instruction", "'store' Instruction",
-- "'atomicrmw' Instruction" and "'cmpxchg' Instruction"). Sizes and alignments are in bytes, widths in bits.
use Rattle.std.specs.Prelude.{ℕ, ◌==◌, if◌then◌else◌, Option, ok_or}
use Rattle.hw_base.specs.declared.accesses.Access.TheVariants.{Read, Write}
use Rattle.hw_base.specs.declared.accesses.Reason.TheVariants.{MixedBytes}
use Rattle.hw_base.specs.declared.operators.RmwOp.{RmwOp}
use Rattle.hw_base.specs.declared.pointers.Base.{Base}
use Rattle.hw_tags.specs.TaskRuns.{Stuck}
use Rattle.ir_core.specs.declared.types.IrType.{IrType}
use Rattle.ir_core.specs.declared.types.IrType.TheVariants.{Int, Ptr}
use Rattle.ir_core.specs.Layout.{int_store_size}
use Rattle.ir_arith.specs.Atomics.{rmw_result}
use Rattle.ir_meaning.specs.Values.{Value, Integer, IntegerAndBit}
use Rattle.ir_meaning.specs.Births.{bytes_at}
use Rattle.ir_meaning.specs.Encoding.{number_bytes, pointer_bytes, int_from, pointer_from}
use Rattle.ir_meaning.specs.State.{SourceSeen, SourceOutcome, nothing_happened}
use Rattle.ir_meaning.specs.Operands.{with_integer, with_pointer}
use Rattle.ir_meaning.specs.StepEnds.{goes_on, gives, stored, on_access, on_read, on_integer}

-- ---- loads and stores

-- a read of the store size, and the value that the bytes spell
unfoldable pub load_step : SourceSeen → Option ℕ → IrType → (align : ℕ) → Option Value → SourceOutcome
load_step s result (Int width) align at =
    with_pointer at (λ base off.
    on_access s Read base off (int_store_size width) align
    (on_integer s (int_from width (bytes_at s.shared.births base off (int_store_size width))) (λ n. gives s result (Integer n))))
load_step s result Ptr align at =
    with_pointer at (λ base off.
    on_access s Read base off 8 align
    (on_read s (ok_or (pointer_from (bytes_at s.shared.births base off 8)) MixedBytes) (λ value. gives s result value)))
load_step s result type align at = Stuck

-- a write of the store size
unfoldable pub store_step : SourceSeen → IrType → (align : ℕ) → Option Value → Option Value → SourceOutcome
store_step s (Int width) align value at =
    with_integer width value (λ n. with_pointer at (λ base off.
    on_access s Write base off (int_store_size width) align
    (goes_on (stored s base off (number_bytes (int_store_size width) n)) nothing_happened)))
store_step s Ptr align value at =
    with_pointer value (λ stored_base stored_off. with_pointer at (λ base off.
    on_access s Write base off 8 align
    (goes_on (stored s base off (pointer_bytes stored_base stored_off)) nothing_happened)))
store_step s type align value at = Stuck

-- ---- atomic instructions

-- the integer of a width through a pointer, and on from it
abbrev pub with_old : SourceSeen → (width : ℕ) → Base → (off : ℕ) → (ℕ → SourceOutcome) → SourceOutcome
with_old s width base off go = on_integer s (int_from width (bytes_at s.shared.births base off (int_store_size width))) go

-- the state after an integer of a width was written
abbrev pub integer_stored : SourceSeen → (width : ℕ) → Base → (off n : ℕ) → SourceSeen
integer_stored s width base off n = stored s base off (number_bytes (int_store_size width) n)

-- a write; the old value is read, the new one is stored, and the old one is the result
unfoldable pub rmw_step : SourceSeen → Option ℕ → RmwOp → IrType → (align : ℕ) → Option Value → Option Value → SourceOutcome
rmw_step s result op (Int width) align at value =
    with_pointer at (λ base off. with_integer width value (λ operand.
    on_access s Write base off (int_store_size width) align
    (with_old s width base off (λ old.
    gives (integer_stored s width base off (rmw_result op width old operand)) result (Integer old)))))
rmw_step s result op type align at value = Stuck

-- a write; if the old value is the expected one the new one is stored; the old value and whether that is so are the result
unfoldable pub cmpxchg_step : SourceSeen → Option ℕ → IrType → (align : ℕ) → Option Value → Option Value → Option Value → SourceOutcome
cmpxchg_step s result (Int width) align at expected new =
    with_pointer at (λ base off. with_integer width expected (λ wanted. with_integer width new (λ replacement.
    on_access s Write base off (int_store_size width) align
    (with_old s width base off (λ old.
    if old == wanted
    then gives (integer_stored s width base off replacement) result (IntegerAndBit old 1)
    else gives s result (IntegerAndBit old 0))))))
cmpxchg_step s result type align at expected new = Stuck
