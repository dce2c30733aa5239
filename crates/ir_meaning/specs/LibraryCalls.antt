-- Calls of declared functions: first the accesses that the function makes, in order, and then what it does, one line a
-- function.
use Rattle.std.specs.Prelude.{ℕ, List, [], ◌∷◌, Option, None}
use Rattle.hw_base.specs.declared.accesses.Access.TheVariants.{Read, Free}
use Rattle.hw_base.specs.declared.accesses.Reason.TheVariants.{IntegerOverPieces}
use Rattle.hw_base.specs.declared.endings.Input.{Input}
use Rattle.hw_base.specs.declared.pointers.Base.{Base}
use Rattle.hw_tags.specs.TaskRuns.{Stuck}
use Rattle.ir_core.specs.declared.ir_module.Module.{Module}
use Rattle.ir_core.specs.declared.lib_functions.Lib.{Lib}
use Rattle.ir_core.specs.declared.lib_functions.Lib.TheVariants as lib
use Rattle.ir_core.specs.declared.operands.Placed.{Placed}
use Rattle.ir_core.specs.declared.operands.StartArg.{StartArg}
use Rattle.ir_core.specs.LibraryAccesses.{LibraryAccess, Counted, Fixed, Text, Freed, accesses_of}
use Rattle.ir_meaning.specs.Values.{Value}
use Rattle.ir_meaning.specs.Strings.{StringAnswer, Whole, Refused, MeetsPiece, NotEnded, string_at}
use Rattle.ir_meaning.specs.State.{SourceSeen, SourceOutcome, nothing_happened}
use Rattle.ir_meaning.specs.Operands.{argument, with_integer, with_pointer}
use Rattle.ir_meaning.specs.StepEnds.{goes_on, goes_outside, on_access, on_answer}
use Rattle.ir_meaning.specs.ArithmeticSteps.{bits_step, overflow_step}
use Rattle.ir_meaning.specs.BlockFunctions.{malloc_step, calloc_step, free_step, realloc_step}
use Rattle.ir_meaning.specs.ByteFunctions.{copy_step, set_step, memcmp_step}
use Rattle.ir_meaning.specs.TextFunctions.{strlen_step, puts_step, putchar_step, getchar_step, exit_step, abort_step}
use Rattle.ir_meaning.specs.TaskFunctions.{create_step, join_step, mutex_init_step, mutex_lock_step, mutex_unlock_step, mutex_destroy_step}

-- ---- accesses

-- on from a string whose accesses are all fine
unfoldable pub on_string : SourceSeen → Base → StringAnswer → SourceOutcome → SourceOutcome
on_string s base (Whole ns) next = next
on_string s base (Refused off refusal) next = on_answer s Read base off 1 refusal Stuck
on_string s base MeetsPiece next = goes_outside s IntegerOverPieces
on_string s base NotEnded next = Stuck

-- on from one access
abbrev pub on_library_access : SourceSeen → List (Option Value) → LibraryAccess → SourceOutcome → SourceOutcome
on_library_access s values (Counted access pointer count) next =
    with_pointer (argument values pointer) (λ base off. with_integer 64 (argument values count) (λ size. on_access s access base off size 1 next))
on_library_access s values (Fixed access pointer size) next =
    with_pointer (argument values pointer) (λ base off. on_access s access base off size size next)
on_library_access s values (Text pointer) next =
    with_pointer (argument values pointer) (λ base off. on_string s base (string_at s.shared.births base off) next)
on_library_access s values (Freed pointer) next =
    with_pointer (argument values pointer) (λ base off. on_access s Free base off 0 1 next)

-- on from all accesses
unfoldable pub on_accesses : SourceSeen → List (Option Value) → List LibraryAccess → SourceOutcome → SourceOutcome
on_accesses s values [] next = next
on_accesses s values (access ∷ accesses) next = on_library_access s values access (on_accesses s values accesses next)

-- ---- what a function does

-- `llvm.assume`, and `llvm.lifetime.*`, which has the variable among its operands
unfoldable pub nothing_step : SourceSeen → SourceOutcome
nothing_step s = goes_on s nothing_happened

unfoldable pub lifetime_step : SourceSeen → List Placed → SourceOutcome
lifetime_step s args = goes_on s nothing_happened

abbrev pub function_step : Module → Input → SourceSeen → Option ℕ → List Placed → List (Option Value) → Option StartArg → Lib → SourceOutcome
function_step program next s result args values start lib.Malloc = malloc_step s result values
function_step program next s result args values start lib.Calloc = calloc_step s result values
function_step program next s result args values start lib.Free = free_step s values
function_step program next s result args values start lib.Realloc = realloc_step s result values
function_step program next s result args values start lib.Memcpy = copy_step s result values
function_step program next s result args values start lib.Memmove = copy_step s result values
function_step program next s result args values start lib.Memset = set_step s result values
function_step program next s result args values start lib.LlvmMemcpy = copy_step s None values
function_step program next s result args values start lib.LlvmMemmove = copy_step s None values
function_step program next s result args values start lib.LlvmMemset = set_step s None values
function_step program next s result args values start lib.Memcmp = memcmp_step s result values
function_step program next s result args values start lib.Strlen = strlen_step s result values
function_step program next s result args values start lib.Puts = puts_step s result values
function_step program next s result args values start lib.Putchar = putchar_step s result values
function_step program next s result args values start lib.Getchar = getchar_step next s result
function_step program next s result args values start lib.Exit = exit_step s values
function_step program next s result args values start lib.Abort = abort_step s
function_step program next s result args values start lib.LlvmTrap = abort_step s
function_step program next s result args values start lib.PthreadCreate = create_step program s result values start
function_step program next s result args values start lib.PthreadJoin = join_step s result values
function_step program next s result args values start lib.MutexInit = mutex_init_step s result values
function_step program next s result args values start lib.MutexLock = mutex_lock_step s result values
function_step program next s result args values start lib.MutexUnlock = mutex_unlock_step s result values
function_step program next s result args values start lib.MutexDestroy = mutex_destroy_step s result
function_step program next s result args values start lib.LifetimeStart = lifetime_step s args
function_step program next s result args values start lib.LifetimeEnd = lifetime_step s args
function_step program next s result args values start lib.Assume = nothing_step s
function_step program next s result args values start (lib.Bits op width) = bits_step s result op width values
function_step program next s result args values start (lib.Overflow op width) = overflow_step s result op width values

-- a call of a declared function, with its operands and their values
abbrev pub library_step : Module → Input → SourceSeen → Option ℕ → List Placed → List (Option Value) → Option StartArg → Lib → SourceOutcome
library_step program next s result args values start function =
    on_accesses s values (accesses_of function) (function_step program next s result args values start function)
