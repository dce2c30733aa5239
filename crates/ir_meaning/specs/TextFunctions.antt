-- The functions on strings, on the output and on the input, and those that end the run (the C standard, "The strlen
-- function", "Character input/output functions" and "Communication with the environment"; LLVM Language Reference,
-- "'llvm.trap' Intrinsic"). The accesses to a string are taken before.
use Rattle.std.specs.Prelude.{ℕ, ◌+◌, ◌%◌, Bool, true, false, List, [], ◌∷◌, ◌++◌, length, Option}
use Rattle.hw_base.specs.Bits.{minus_one}
use Rattle.hw_base.specs.declared.endings.Input.{Input}
use Rattle.hw_base.specs.declared.endings.Input.TheVariants.{Byte, End}
use Rattle.hw_base.specs.declared.endings.Trap.TheVariants.{Abort}
use Rattle.hw_tags.specs.InputState.{InputState}
use Rattle.hw_tags.specs.TaskRuns.{Stuck}
use Rattle.ir_meaning.specs.Values.{Value, Integer}
use Rattle.ir_meaning.specs.Strings.{StringAnswer, Whole, Refused, MeetsPiece, NotEnded, string_at}
use Rattle.ir_meaning.specs.State.{Exited, SourceSeen, SourceOutcome, printing}
use Rattle.ir_meaning.specs.Operands.{argument, with_integer, with_pointer}
use Rattle.ir_meaning.specs.StepEnds.{ends, gives, gives_with, traps}

-- ---- strings

-- on from a string that was read whole
unfoldable pub on_whole : StringAnswer → (List ℕ → SourceOutcome) → SourceOutcome
on_whole (Whole ns) go = go ns
on_whole (Refused off refusal) go = Stuck
on_whole MeetsPiece go = Stuck
on_whole NotEnded go = Stuck

-- `i64 strlen(ptr s)`
unfoldable pub strlen_step : SourceSeen → Option ℕ → List (Option Value) → SourceOutcome
strlen_step s result values =
    with_pointer (argument values 0) (λ base off. on_whole (string_at s.shared.births base off) (λ ns. gives s result (Integer (length ns))))

-- `i32 puts(ptr s)`: the string and a line end are printed
unfoldable pub puts_step : SourceSeen → Option ℕ → List (Option Value) → SourceOutcome
puts_step s result values =
    with_pointer (argument values 0) (λ base off.
    on_whole (string_at s.shared.births base off) (λ ns. gives_with s result (Integer 0) (printing (ns ++ 10 ∷ []))))

-- ---- output and input

-- `i32 putchar(i32 c)`: the low byte is printed and is the result
unfoldable pub putchar_step : SourceSeen → Option ℕ → List (Option Value) → SourceOutcome
putchar_step s result values =
    with_integer 32 (argument values 0) (λ c. gives_with s result (Integer (c % 256)) (printing (c % 256 ∷ [])))

abbrev pub with_input : SourceSeen → InputState → SourceSeen
with_input s input = record s { shared = record s.shared { input = input } }

-- the next byte of the input, or -1 at its end
abbrev pub taken : SourceSeen → Option ℕ → Input → SourceOutcome
taken s result (Byte byte) = gives (with_input s (record s.shared.input { taken = s.shared.input.taken + 1 })) result (Integer byte)
taken s result End = gives (with_input s (record s.shared.input { at_end = true })) result (Integer minus_one)

-- after the end was met no more is read
abbrev pub taken_if : (at_end : Bool) → SourceSeen → Option ℕ → Input → SourceOutcome
taken_if true s result next = gives s result (Integer minus_one)
taken_if false s result next = taken s result next

-- `i32 getchar()`, for what the next read of the input gives
unfoldable pub getchar_step : Input → SourceSeen → Option ℕ → SourceOutcome
getchar_step next s result = taken_if s.shared.input.at_end s result next

-- ---- ends of the run

-- `void exit(i32 c)`: all frames stay as they are
unfoldable pub exit_step : SourceSeen → List (Option Value) → SourceOutcome
exit_step s values = with_integer 32 (argument values 0) (λ c. ends s (Exited c))

-- `void abort()` and `void llvm.trap()`
unfoldable pub abort_step : SourceSeen → SourceOutcome
abort_step s = traps s Abort
