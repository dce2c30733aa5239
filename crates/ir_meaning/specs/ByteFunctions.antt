-- The functions on runs of bytes (the C standard, "Copying functions", "Comparison functions" and "The memset function";
-- LLVM Language Reference, "'llvm.memcpy' Intrinsic", "'llvm.memmove' Intrinsic" and "'llvm.memset.*' Intrinsics"). Their
-- accesses are taken before. An intrinsic has no result, and its further argument is ignored.
use Rattle.std.specs.Prelude.{ℕ, ◌%◌, List, replicate, Option, Some}
use Rattle.hw_base.specs.Bytes.{byte_order, order_bits}
use Rattle.hw_base.specs.declared.accesses.Reason.TheVariants.{IntegerOverPieces}
use Rattle.ir_meaning.specs.Values.{Value, Integer, Address, Data}
use Rattle.ir_meaning.specs.Births.{bytes_at}
use Rattle.ir_meaning.specs.Encoding.{data_numbers}
use Rattle.ir_meaning.specs.State.{SourceSeen, SourceOutcome}
use Rattle.ir_meaning.specs.Operands.{argument, with_integer, with_pointer}
use Rattle.ir_meaning.specs.StepEnds.{gives, goes_outside, stored}

-- `memcpy` and `memmove`, in both forms: the bytes move, pieces of pointers too, as if all were read first. The destination is the result
unfoldable pub copy_step : SourceSeen → Option ℕ → List (Option Value) → SourceOutcome
copy_step s result values =
    with_pointer (argument values 0) (λ to to_off. with_pointer (argument values 1) (λ from from_off.
    with_integer 64 (argument values 2) (λ count.
    gives (stored s to to_off (bytes_at s.shared.births from from_off count)) result (Address to to_off))))

-- `memset`, in both forms: the low byte of the number, so many times. The destination is the result
unfoldable pub set_step : SourceSeen → Option ℕ → List (Option Value) → SourceOutcome
set_step s result values =
    with_pointer (argument values 0) (λ to to_off. with_integer 32 (argument values 1) (λ byte.
    with_integer 64 (argument values 2) (λ count.
    gives (stored s to to_off (replicate count (Data (byte % 256)))) result (Address to to_off))))

-- a comparison of bytes that are all numbers: the first difference decides
abbrev pub gives_order : SourceSeen → Option ℕ → Option (List ℕ) → Option (List ℕ) → SourceOutcome
gives_order s result (Some xs) (Some ys) = gives s result (Integer (order_bits (byte_order xs ys)))
gives_order s result xs ys = goes_outside s IntegerOverPieces

-- `i32 memcmp(ptr a, ptr b, i64 n)`
unfoldable pub memcmp_step : SourceSeen → Option ℕ → List (Option Value) → SourceOutcome
memcmp_step s result values =
    with_pointer (argument values 0) (λ a a_off. with_pointer (argument values 1) (λ b b_off.
    with_integer 64 (argument values 2) (λ count.
    gives_order s result (data_numbers (bytes_at s.shared.births a a_off count)) (data_numbers (bytes_at s.shared.births b b_off count)))))
