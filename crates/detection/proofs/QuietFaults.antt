-- A step in which the source meets a violation or leaves the profile prints nothing.
use Rattle.std.proofs.Common.{ℕ, List, [], ◌∷◌, Option, Some, None, Bool, true, false, zero, suc, ◌+◌, length, ◌==◌, nat_le, refl}
use Rattle.std.specs.Prelude.{Result, Ok, Err}
use Rattle.hw_base.specs.declared.pointers.Base.{Base}
use Rattle.ir_core.specs.declared.ir_module.Function.{Function}
use Rattle.ir_core.specs.LibraryAccesses.{accesses_of}
use Rattle.ir_meaning.specs.Values.{Value}
use Rattle.ir_meaning.specs.State.{SourceFrame, SourceSeen, SourceOutcome}
use Rattle.ir_meaning.specs.Strings.{StringAnswer, Whole, Refused, MeetsPiece, NotEnded}
use Rattle.ir_meaning.specs.CallSteps.{call_step, last_return, returns_to, ret_step}
use Rattle.ir_meaning.specs.LibraryCalls.{nothing_step, lifetime_step, function_step}
use Rattle.hw_base.specs.declared.endings.Input.{Input}
use Rattle.hw_base.specs.declared.endings.Input.TheVariants.{Byte, End}
use Rattle.hw_base.specs.declared.endings.Trap.{Trap}
use Rattle.hw_base.specs.declared.numbers.TheConstants.{MOST_FRAMES, MOST_TASKS}
use Rattle.hw_base.specs.declared.operators.BinOp.{BinOp}
use Rattle.hw_base.specs.declared.operators.BitOp.{BitOp}
use Rattle.hw_base.specs.declared.operators.CastOp.{CastOp}
use Rattle.hw_base.specs.declared.operators.OverOp.{OverOp}
use Rattle.hw_base.specs.declared.operators.Pred.{Pred}
use Rattle.hw_base.specs.declared.operators.RmwOp.{RmwOp}
use Rattle.hw_base.specs.declared.pointers.Base.TheVariants.{Null, Object}
use Rattle.ir_core.specs.declared.types.IrType.{IrType}
use Rattle.ir_core.specs.declared.types.IrType.TheVariants.{Void, Int, Ptr, Array, Struct, Opaque, Pair}
use Rattle.ir_core.specs.declared.lib_functions.Lib.{Lib}
use Rattle.ir_core.specs.declared.lib_functions.Lib.TheVariants as lib
use Rattle.ir_core.specs.declared.operands.Case.{Case}
use Rattle.ir_core.specs.declared.operands.Placed.{Placed}
use Rattle.ir_core.specs.declared.operands.StartArg.{StartArg}
use Rattle.ir_core.specs.declared.operations.Op.{Op}
use Rattle.ir_core.specs.declared.operations.Op.TheVariants as op
use Rattle.ir_core.specs.declared.ir_module.Module.{Module}
use Rattle.ir_meaning.specs.ArithmeticSteps.{binary_step, gives_or_traps, gives_comparison, icmp_step, cast_step, select_step, freeze_step, extract_step, bits_step, overflow_step}
use Rattle.ir_meaning.specs.AddressSteps.{alloca_step, gep_step}
use Rattle.ir_meaning.specs.MemorySteps.{load_step, store_step, rmw_step, cmpxchg_step}
use Rattle.ir_meaning.specs.BranchSteps.{goes_to, br_step, br_if_step, switch_step, unreachable_step}
use Rattle.ir_meaning.specs.BlockFunctions.{freed, resized, malloc_step, calloc_step, free_step, realloc_step}
use Rattle.ir_meaning.specs.ByteFunctions.{copy_step, set_step, gives_order, memcmp_step}
use Rattle.ir_meaning.specs.TextFunctions.{on_whole, strlen_step, puts_step, putchar_step, taken, taken_if, getchar_step, exit_step, abort_step}
use Rattle.ir_meaning.specs.TaskFunctions.{started, create_step, joined, join_step, mutex_init_step, mutex_lock_step, mutex_unlock_step, mutex_destroy_step}
use Rattle.ir_meaning.specs.InstructionStep.{operation_step, source_step}
use Rattle.detection.proofs.QuietEndings.{IsQuiet, with_named-quiet, with_integer-quiet, with_pointer-quiet, with_pair-quiet, if-quiet, on_arguments-quiet, on_answer-quiet, on_read-quiet, on_integer-quiet, on_accesses-quiet}

-- ---- values

gives_or_traps-quiet : (s : SourceSeen) (result : Option ℕ) (r : Result ℕ Trap) → IsQuiet (gives_or_traps s result r)
gives_or_traps-quiet s result (Ok n) = refl
gives_or_traps-quiet s result (Err trap) = refl

binary_step-quiet : (s : SourceSeen) (result : Option ℕ) (op : BinOp) (width : ℕ) (a b : Option Value) → IsQuiet (binary_step s result op width a b)
unfolding binary_step
binary_step-quiet s result op width a b =
    with_integer-quiet width a _ (λ x. with_integer-quiet width b _ (λ y. gives_or_traps-quiet s result _))

gives_comparison-quiet : (s : SourceSeen) (result : Option ℕ) (o : Option Bool) → IsQuiet (gives_comparison s result o)
gives_comparison-quiet s result None = refl
gives_comparison-quiet s result (Some answer) = refl

icmp_step-quiet : (s : SourceSeen) (result : Option ℕ) (pred : Pred) (type : IrType) (a b : Option Value) → IsQuiet (icmp_step s result pred type a b)
unfolding icmp_step
icmp_step-quiet s result pred Void a b = refl
icmp_step-quiet s result pred (Int width) a b =
    with_integer-quiet width a _ (λ x. with_integer-quiet width b _ (λ y. refl))
icmp_step-quiet s result pred Ptr a b =
    with_pointer-quiet a _ (λ p x. with_pointer-quiet b _ (λ q y. gives_comparison-quiet s result _))
icmp_step-quiet s result pred (Array count item) a b = refl
icmp_step-quiet s result pred (Struct first count packed) a b = refl
icmp_step-quiet s result pred Opaque a b = refl
icmp_step-quiet s result pred (Pair width) a b = refl

cast_step-quiet : (s : SourceSeen) (result : Option ℕ) (op : CastOp) (from to : ℕ) (a : Option Value) → IsQuiet (cast_step s result op from to a)
unfolding cast_step
cast_step-quiet s result op from to a = with_integer-quiet from a _ (λ x. refl)

select_step-quiet : (s : SourceSeen) (result : Option ℕ) (cond a b : Option Value) → IsQuiet (select_step s result cond a b)
unfolding select_step
select_step-quiet s result cond a b =
    with_integer-quiet 1 cond _ (λ c. with_named-quiet _ _ (λ v. refl))

freeze_step-quiet : (s : SourceSeen) (result : Option ℕ) (a : Option Value) → IsQuiet (freeze_step s result a)
unfolding freeze_step
freeze_step-quiet s result a = with_named-quiet _ _ (λ v. refl)

extract_step-quiet : (s : SourceSeen) (result : Option ℕ) (part : Option ℕ) (pair : Option Value) → IsQuiet (extract_step s result part pair)
unfolding extract_step
extract_step-quiet s result None pair = refl
extract_step-quiet s result (Some part) pair = with_pair-quiet pair _ (λ n bit. refl)

bits_step-quiet : (s : SourceSeen) (result : Option ℕ) (op : BitOp) (width : ℕ) (values : List (Option Value)) → IsQuiet (bits_step s result op width values)
unfolding bits_step
bits_step-quiet s result op width [] = refl
bits_step-quiet s result op width (a ∷ []) = with_integer-quiet width a _ (λ x. refl)
bits_step-quiet s result op width (a ∷ b ∷ []) =
    with_integer-quiet width a _ (λ x. with_integer-quiet width b _ (λ y. refl))
bits_step-quiet s result op width (a ∷ b ∷ c ∷ []) =
    with_integer-quiet width a _ (λ x. with_integer-quiet width b _ (λ y.
    with_integer-quiet width c _ (λ z. refl)))
bits_step-quiet s result op width (a ∷ b ∷ c ∷ d ∷ values) = refl

overflow_step-quiet : (s : SourceSeen) (result : Option ℕ) (op : OverOp) (width : ℕ) (values : List (Option Value)) → IsQuiet (overflow_step s result op width values)
unfolding overflow_step
overflow_step-quiet s result op width values =
    with_integer-quiet width _ _ (λ x. with_integer-quiet width _ _ (λ y. refl))

-- ---- addresses

alloca_step-quiet : (s : SourceSeen) (result : Option ℕ) (k : ℕ) → IsQuiet (alloca_step s result k)
unfolding alloca_step
alloca_step-quiet s result k = with_named-quiet s.frame.birth _ (λ birth. refl)

gep_step-quiet : (program : Module) (s : SourceSeen) (result : Option ℕ) (ty : ℕ) (base : Option Value) (indices : List Placed) → IsQuiet (gep_step program s result ty base indices)
unfolding gep_step
gep_step-quiet program s result ty base indices =
    with_pointer-quiet base _ (λ b off. with_named-quiet _ _ (λ steps.
    with_named-quiet _ _ (λ bytes. refl)))

-- ---- memory

load_step-quiet : (s : SourceSeen) (result : Option ℕ) (type : IrType) (align : ℕ) (at : Option Value) → IsQuiet (load_step s result type align at)
unfolding load_step
load_step-quiet s result Void align at = refl
load_step-quiet s result (Int width) align at =
    with_pointer-quiet at _ (λ base off.
    on_answer-quiet s _ base off _ _ _ (on_integer-quiet s _ _ (λ n. refl)))
load_step-quiet s result Ptr align at =
    with_pointer-quiet at _ (λ base off.
    on_answer-quiet s _ base off _ _ _ (on_read-quiet s _ _ (λ v. refl)))
load_step-quiet s result (Array count item) align at = refl
load_step-quiet s result (Struct first count packed) align at = refl
load_step-quiet s result Opaque align at = refl
load_step-quiet s result (Pair width) align at = refl

store_step-quiet : (s : SourceSeen) (type : IrType) (align : ℕ) (value at : Option Value) → IsQuiet (store_step s type align value at)
unfolding store_step
store_step-quiet s Void align value at = refl
store_step-quiet s (Int width) align value at =
    with_integer-quiet width value _ (λ n. with_pointer-quiet at _ (λ base off.
    on_answer-quiet s _ base off _ _ _ refl))
store_step-quiet s Ptr align value at =
    with_pointer-quiet value _ (λ p x. with_pointer-quiet at _ (λ base off.
    on_answer-quiet s _ base off _ _ _ refl))
store_step-quiet s (Array count item) align value at = refl
store_step-quiet s (Struct first count packed) align value at = refl
store_step-quiet s Opaque align value at = refl
store_step-quiet s (Pair width) align value at = refl

rmw_step-quiet : (s : SourceSeen) (result : Option ℕ) (op : RmwOp) (type : IrType) (align : ℕ) (at value : Option Value) → IsQuiet (rmw_step s result op type align at value)
unfolding rmw_step
rmw_step-quiet s result op Void align at value = refl
rmw_step-quiet s result op (Int width) align at value =
    with_pointer-quiet at _ (λ base off. with_integer-quiet width value _ (λ operand.
    on_answer-quiet s _ base off _ _ _ (on_integer-quiet s _ _ (λ old. refl))))
rmw_step-quiet s result op Ptr align at value = refl
rmw_step-quiet s result op (Array count item) align at value = refl
rmw_step-quiet s result op (Struct first count packed) align at value = refl
rmw_step-quiet s result op Opaque align at value = refl
rmw_step-quiet s result op (Pair width) align at value = refl

cmpxchg_step-quiet : (s : SourceSeen) (result : Option ℕ) (type : IrType) (align : ℕ) (at expected new : Option Value) → IsQuiet (cmpxchg_step s result type align at expected new)
unfolding cmpxchg_step
cmpxchg_step-quiet s result Void align at expected new = refl
cmpxchg_step-quiet s result (Int width) align at expected new =
    with_pointer-quiet at _ (λ base off. with_integer-quiet width expected _ (λ wanted.
    with_integer-quiet width new _ (λ replacement.
    on_answer-quiet s _ base off _ _ _ (on_integer-quiet s _ _ (λ old.
    if-quiet (old == wanted) _ _ refl refl)))))
cmpxchg_step-quiet s result Ptr align at expected new = refl
cmpxchg_step-quiet s result (Array count item) align at expected new = refl
cmpxchg_step-quiet s result (Struct first count packed) align at expected new = refl
cmpxchg_step-quiet s result Opaque align at expected new = refl
cmpxchg_step-quiet s result (Pair width) align at expected new = refl

-- ---- branches, calls and returns

goes_to-quiet : (program : Module) (f : Function) (s : SourceSeen) (target : ℕ) → IsQuiet (goes_to program f s target)
goes_to-quiet program f s target =
    with_named-quiet _ _ (λ block. with_named-quiet _ _ (λ values. refl))

br_step-quiet : (program : Module) (f : Function) (s : SourceSeen) (target : ℕ) → IsQuiet (br_step program f s target)
unfolding br_step
br_step-quiet program f s target = goes_to-quiet program f s target

br_if_step-quiet : (program : Module) (f : Function) (s : SourceSeen) (cond : Option Value) (a b : ℕ) → IsQuiet (br_if_step program f s cond a b)
unfolding br_if_step
br_if_step-quiet program f s cond a b = with_integer-quiet 1 cond _ (λ c. goes_to-quiet program f s _)

switch_step-quiet : (program : Module) (f : Function) (s : SourceSeen) (width : ℕ) (on : Option Value) (other : ℕ) (cases : List Case) → IsQuiet (switch_step program f s width on other cases)
unfolding switch_step
switch_step-quiet program f s width on other cases = with_integer-quiet width on _ (λ n. goes_to-quiet program f s _)

unreachable_step-quiet : (s : SourceSeen) → IsQuiet (unreachable_step s)
unfolding unreachable_step
unreachable_step-quiet s = refl

call_step-quiet : (program : Module) (s : SourceSeen) (func : ℕ) (arguments : List (Option Value)) → IsQuiet (call_step program s func arguments)
unfolding call_step
call_step-quiet program s func arguments =
    with_named-quiet _ _ (λ f. with_named-quiet _ _ (λ values.
    on_arguments-quiet f values _
    (if-quiet (nat_le MOST_FRAMES (length s.callers + 1)) _ _ refl
    refl)))

last_return-quiet : (s : SourceSeen) (value : Option Value) (task : ℕ) → IsQuiet (last_return s value task)
last_return-quiet s value zero = with_integer-quiet 32 value _ (λ n. refl)
last_return-quiet s value (suc task) = refl

returns_to-quiet : (program : Module) (s : SourceSeen) (value : Option Value) (callers : List SourceFrame) → IsQuiet (returns_to program s value callers)
returns_to-quiet program s value [] = last_return-quiet s value s.task
returns_to-quiet program s value (caller ∷ callers) = refl

ret_step-quiet : (program : Module) (s : SourceSeen) (returned : Option (Option Value)) → IsQuiet (ret_step program s returned)
unfolding ret_step
ret_step-quiet program s returned = with_named-quiet _ _ (λ value. returns_to-quiet program s value s.callers)

-- ---- blocks

malloc_step-quiet : (s : SourceSeen) (result : Option ℕ) (values : List (Option Value)) → IsQuiet (malloc_step s result values)
unfolding malloc_step
malloc_step-quiet s result values = with_integer-quiet 64 _ _ (λ n. refl)

calloc_step-quiet : (s : SourceSeen) (result : Option ℕ) (values : List (Option Value)) → IsQuiet (calloc_step s result values)
unfolding calloc_step
calloc_step-quiet s result values =
    with_integer-quiet 64 _ _ (λ n. with_integer-quiet 64 _ _ (λ m.
    refl))

freed-quiet : (s : SourceSeen) (base : Base) → IsQuiet (freed s base)
freed-quiet s Null = refl
freed-quiet s (Object o) = refl

free_step-quiet : (s : SourceSeen) (values : List (Option Value)) → IsQuiet (free_step s values)
unfolding free_step
free_step-quiet s values = with_pointer-quiet _ _ (λ base off. freed-quiet s base)

resized-quiet : (s : SourceSeen) (result : Option ℕ) (base : Base) (size : ℕ) → IsQuiet (resized s result base size)
resized-quiet s result Null size = refl
resized-quiet s result (Object o) size = refl

realloc_step-quiet : (s : SourceSeen) (result : Option ℕ) (values : List (Option Value)) → IsQuiet (realloc_step s result values)
unfolding realloc_step
realloc_step-quiet s result values =
    with_pointer-quiet _ _ (λ base off. with_integer-quiet 64 _ _ (λ size. resized-quiet s result base size))

-- ---- bytes and strings

copy_step-quiet : (s : SourceSeen) (result : Option ℕ) (values : List (Option Value)) → IsQuiet (copy_step s result values)
unfolding copy_step
copy_step-quiet s result values =
    with_pointer-quiet _ _ (λ to to_off. with_pointer-quiet _ _ (λ from from_off.
    with_integer-quiet 64 _ _ (λ count. refl)))

set_step-quiet : (s : SourceSeen) (result : Option ℕ) (values : List (Option Value)) → IsQuiet (set_step s result values)
unfolding set_step
set_step-quiet s result values =
    with_pointer-quiet _ _ (λ to to_off. with_integer-quiet 32 _ _ (λ byte.
    with_integer-quiet 64 _ _ (λ count. refl)))

gives_order-quiet : (s : SourceSeen) (result : Option ℕ) (xs ys : Option (List ℕ)) → IsQuiet (gives_order s result xs ys)
gives_order-quiet s result None ys = refl
gives_order-quiet s result (Some xs) None = refl
gives_order-quiet s result (Some xs) (Some ys) = refl

memcmp_step-quiet : (s : SourceSeen) (result : Option ℕ) (values : List (Option Value)) → IsQuiet (memcmp_step s result values)
unfolding memcmp_step
memcmp_step-quiet s result values =
    with_pointer-quiet _ _ (λ a a_off. with_pointer-quiet _ _ (λ b b_off.
    with_integer-quiet 64 _ _ (λ count. gives_order-quiet s result _ _)))

on_whole-quiet : (found : StringAnswer) (go : List ℕ → SourceOutcome) → ((ns : List ℕ) → IsQuiet (go ns)) → IsQuiet (on_whole found go)
unfolding on_whole
on_whole-quiet (Whole ns) go h = h ns
on_whole-quiet (Refused off refusal) go h = refl
on_whole-quiet MeetsPiece go h = refl
on_whole-quiet NotEnded go h = refl

strlen_step-quiet : (s : SourceSeen) (result : Option ℕ) (values : List (Option Value)) → IsQuiet (strlen_step s result values)
unfolding strlen_step
strlen_step-quiet s result values =
    with_pointer-quiet _ _ (λ base off. on_whole-quiet _ _ (λ ns. refl))

puts_step-quiet : (s : SourceSeen) (result : Option ℕ) (values : List (Option Value)) → IsQuiet (puts_step s result values)
unfolding puts_step
puts_step-quiet s result values =
    with_pointer-quiet _ _ (λ base off. on_whole-quiet _ _ (λ ns. refl))

putchar_step-quiet : (s : SourceSeen) (result : Option ℕ) (values : List (Option Value)) → IsQuiet (putchar_step s result values)
unfolding putchar_step
putchar_step-quiet s result values = with_integer-quiet 32 _ _ (λ c. refl)

taken-quiet : (s : SourceSeen) (result : Option ℕ) (next : Input) → IsQuiet (taken s result next)
taken-quiet s result (Byte byte) = refl
taken-quiet s result End = refl

taken_if-quiet : (at_end : Bool) (s : SourceSeen) (result : Option ℕ) (next : Input) → IsQuiet (taken_if at_end s result next)
taken_if-quiet true s result next = refl
taken_if-quiet false s result next = taken-quiet s result next

getchar_step-quiet : (next : Input) (s : SourceSeen) (result : Option ℕ) → IsQuiet (getchar_step next s result)
unfolding getchar_step
getchar_step-quiet next s result = taken_if-quiet s.shared.input.at_end s result next

exit_step-quiet : (s : SourceSeen) (values : List (Option Value)) → IsQuiet (exit_step s values)
unfolding exit_step
exit_step-quiet s values = with_integer-quiet 32 _ _ (λ c. refl)

abort_step-quiet : (s : SourceSeen) → IsQuiet (abort_step s)
unfolding abort_step
abort_step-quiet s = refl

-- ---- tasks

started-quiet : (s : SourceSeen) (result : Option ℕ) (base : Base) (off : ℕ) (f : Function) (func : ℕ) (value : Value) → IsQuiet (started s result base off f func value)
started-quiet s result base off f func value = if-quiet (nat_le MOST_TASKS (length s.finished)) _ _ refl refl

create_step-quiet : (program : Module) (s : SourceSeen) (result : Option ℕ) (values : List (Option Value)) (start : Option StartArg) → IsQuiet (create_step program s result values start)
unfolding create_step
create_step-quiet program s result values start =
    with_named-quiet start _ (λ begin. with_named-quiet _ _ (λ f.
    with_pointer-quiet _ _ (λ base off. with_named-quiet _ _ (λ value.
    on_arguments-quiet f _ _ (started-quiet s result base off f begin.func value)))))

joined-quiet : (s : SourceSeen) (result : Option ℕ) (o : Option Bool) → IsQuiet (joined s result o)
joined-quiet s result None = refl
joined-quiet s result (Some false) = refl
joined-quiet s result (Some true) = refl

join_step-quiet : (s : SourceSeen) (result : Option ℕ) (values : List (Option Value)) → IsQuiet (join_step s result values)
unfolding join_step
join_step-quiet s result values = with_integer-quiet 64 _ _ (λ task. joined-quiet s result _)

mutex_init_step-quiet : (s : SourceSeen) (result : Option ℕ) (values : List (Option Value)) → IsQuiet (mutex_init_step s result values)
unfolding mutex_init_step
mutex_init_step-quiet s result values = with_pointer-quiet _ _ (λ base off. refl)

mutex_lock_step-quiet : (s : SourceSeen) (result : Option ℕ) (values : List (Option Value)) → IsQuiet (mutex_lock_step s result values)
unfolding mutex_lock_step
mutex_lock_step-quiet s result values =
    with_pointer-quiet _ _ (λ base off. on_integer-quiet s _ _ (λ word.
    if-quiet (word == 0) _ _ refl refl))

mutex_unlock_step-quiet : (s : SourceSeen) (result : Option ℕ) (values : List (Option Value)) → IsQuiet (mutex_unlock_step s result values)
unfolding mutex_unlock_step
mutex_unlock_step-quiet s result values =
    with_pointer-quiet _ _ (λ base off. on_integer-quiet s _ _ (λ word.
    if-quiet (word == s.task + 1) _ _ refl refl))

mutex_destroy_step-quiet : (s : SourceSeen) (result : Option ℕ) → IsQuiet (mutex_destroy_step s result)
unfolding mutex_destroy_step
mutex_destroy_step-quiet s result = refl

-- ---- all steps

nothing_step-quiet : (s : SourceSeen) → IsQuiet (nothing_step s)
unfolding nothing_step
nothing_step-quiet s = refl

lifetime_step-quiet : (s : SourceSeen) (args : List Placed) → IsQuiet (lifetime_step s args)
unfolding lifetime_step
lifetime_step-quiet s args = refl

function_step-quiet : (program : Module) (next : Input) (s : SourceSeen) (result : Option ℕ) (args : List Placed) (values : List (Option Value)) (start : Option StartArg) (function : Lib) → IsQuiet (function_step program next s result args values start function)
function_step-quiet program next s result args values start lib.Malloc = malloc_step-quiet s result values
function_step-quiet program next s result args values start lib.Calloc = calloc_step-quiet s result values
function_step-quiet program next s result args values start lib.Free = free_step-quiet s values
function_step-quiet program next s result args values start lib.Realloc = realloc_step-quiet s result values
function_step-quiet program next s result args values start lib.Memcpy = copy_step-quiet s result values
function_step-quiet program next s result args values start lib.Memmove = copy_step-quiet s result values
function_step-quiet program next s result args values start lib.Memset = set_step-quiet s result values
function_step-quiet program next s result args values start lib.LlvmMemcpy = copy_step-quiet s None values
function_step-quiet program next s result args values start lib.LlvmMemmove = copy_step-quiet s None values
function_step-quiet program next s result args values start lib.LlvmMemset = set_step-quiet s None values
function_step-quiet program next s result args values start lib.Memcmp = memcmp_step-quiet s result values
function_step-quiet program next s result args values start lib.Strlen = strlen_step-quiet s result values
function_step-quiet program next s result args values start lib.Puts = puts_step-quiet s result values
function_step-quiet program next s result args values start lib.Putchar = putchar_step-quiet s result values
function_step-quiet program next s result args values start lib.Getchar = getchar_step-quiet next s result
function_step-quiet program next s result args values start lib.Exit = exit_step-quiet s values
function_step-quiet program next s result args values start lib.Abort = abort_step-quiet s
function_step-quiet program next s result args values start lib.LlvmTrap = abort_step-quiet s
function_step-quiet program next s result args values start lib.PthreadCreate = create_step-quiet program s result values start
function_step-quiet program next s result args values start lib.PthreadJoin = join_step-quiet s result values
function_step-quiet program next s result args values start lib.MutexInit = mutex_init_step-quiet s result values
function_step-quiet program next s result args values start lib.MutexLock = mutex_lock_step-quiet s result values
function_step-quiet program next s result args values start lib.MutexUnlock = mutex_unlock_step-quiet s result values
function_step-quiet program next s result args values start lib.MutexDestroy = mutex_destroy_step-quiet s result
function_step-quiet program next s result args values start lib.LifetimeStart = lifetime_step-quiet s args
function_step-quiet program next s result args values start lib.LifetimeEnd = lifetime_step-quiet s args
function_step-quiet program next s result args values start lib.Assume = nothing_step-quiet s
function_step-quiet program next s result args values start (lib.Bits op width) = bits_step-quiet s result op width values
function_step-quiet program next s result args values start (lib.Overflow op width) = overflow_step-quiet s result op width values

operation_step-quiet : (program : Module) (next : Input) (f : Function) (s : SourceSeen) (result : Option ℕ) (operation : Op) → IsQuiet (operation_step program next f s result operation)
operation_step-quiet program next f s result (op.Binary kind a b) = binary_step-quiet s result kind _ _ _
operation_step-quiet program next f s result (op.Icmp pred a b) = icmp_step-quiet s result pred _ _ _
operation_step-quiet program next f s result (op.Cast kind a to) = cast_step-quiet s result kind _ _ _
operation_step-quiet program next f s result (op.Select cond a b) = select_step-quiet s result _ _ _
operation_step-quiet program next f s result (op.Freeze a) = freeze_step-quiet s result _
operation_step-quiet program next f s result (op.Phi ty entries) = refl
operation_step-quiet program next f s result (op.Alloca index ty count) = alloca_step-quiet s result index
operation_step-quiet program next f s result (op.Load ty at align) = load_step-quiet s result _ align _
operation_step-quiet program next f s result (op.Store value at align) = store_step-quiet s _ align _ _
operation_step-quiet program next f s result (op.Gep ty base indices) = gep_step-quiet program s result ty _ indices
operation_step-quiet program next f s result op.Fence = nothing_step-quiet s
operation_step-quiet program next f s result (op.Rmw kind at value align) = rmw_step-quiet s result kind _ align _ _
operation_step-quiet program next f s result (op.CmpXchg at expected new align) = cmpxchg_step-quiet s result _ align _ _ _
operation_step-quiet program next f s result (op.ExtractValue pair part) = extract_step-quiet s result part _
operation_step-quiet program next f s result (op.Call func ty args) = call_step-quiet program s func _
operation_step-quiet program next f s result (op.CallLib declare ty args start) =
    with_named-quiet _ _ (λ d.
    on_accesses-quiet s _ (accesses_of d.lib) _ (function_step-quiet program next s result args _ start d.lib))
operation_step-quiet program next f s result (op.Br block) = br_step-quiet program f s block
operation_step-quiet program next f s result (op.BrIf cond at_one at_zero) = br_if_step-quiet program f s _ at_one at_zero
operation_step-quiet program next f s result (op.Switch on other cases) = switch_step-quiet program f s _ _ other cases
operation_step-quiet program next f s result (op.Ret value) = ret_step-quiet program s _
operation_step-quiet program next f s result op.Unreachable = unreachable_step-quiet s

-- so each step
pub source_step-quiet : (program : Module) (next : Input) (s : SourceSeen) → IsQuiet (source_step program next s)
source_step-quiet program next s =
    with_named-quiet _ _ (λ f. with_named-quiet _ _ (λ i. operation_step-quiet program next f s i.result i.op))
