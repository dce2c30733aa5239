-- What each step does to births: nothing but what it reports.
use Rattle.std.proofs.lemmas.List.{append-nil}
use Rattle.std.proofs.Common.{subst, ℕ, zero, suc, ◌+◌, List, [], ◌∷◌, ◌++◌, length, Option, Some, None, Bool, true, false, ◌==◌, nat_le}
use Rattle.std.specs.Prelude.{Result, Ok, Err, take}
use Rattle.hw_base.specs.declared.endings.Input.{Input}
use Rattle.hw_base.specs.declared.endings.Input.TheVariants.{Byte, End}
use Rattle.hw_base.specs.declared.endings.Trap.{Trap}
use Rattle.hw_base.specs.declared.numbers.TheConstants.{MOST_FRAMES, MOST_TASKS}
use Rattle.hw_base.specs.declared.operators.BinOp.{BinOp}
use Rattle.hw_base.specs.declared.operators.BitOp.{BitOp}
use Rattle.hw_base.specs.declared.operators.CastOp.{CastOp}
use Rattle.hw_base.specs.declared.operators.OverOp.{OverOp}
use Rattle.hw_base.specs.declared.operators.Pred.{Pred}
use Rattle.hw_base.specs.declared.operators.RmwOp.{RmwOp}
use Rattle.hw_base.specs.declared.pointers.Base.{Base}
use Rattle.hw_base.specs.declared.pointers.Base.TheVariants.{Null, Object}
use Rattle.hw_base.specs.declared.pointers.Site.{Site}
use Rattle.ir_core.specs.declared.types.IrType.{IrType}
use Rattle.ir_core.specs.declared.types.IrType.TheVariants.{Void, Int, Ptr, Array, Struct, Opaque, Pair}
use Rattle.ir_core.specs.declared.lib_functions.Lib.{Lib}
use Rattle.ir_core.specs.declared.lib_functions.Lib.TheVariants as lib
use Rattle.ir_core.specs.declared.operands.Case.{Case}
use Rattle.ir_core.specs.declared.operands.Placed.{Placed}
use Rattle.ir_core.specs.declared.operands.StartArg.{StartArg}
use Rattle.ir_core.specs.declared.operations.Op.{Op}
use Rattle.ir_core.specs.declared.operations.Op.TheVariants as op
use Rattle.ir_core.specs.declared.ir_module.Function.{Function}
use Rattle.ir_core.specs.declared.ir_module.Module.{Module}
use Rattle.ir_core.specs.LibraryAccesses.{accesses_of}
use Rattle.ir_meaning.specs.Values.{Value}
use Rattle.ir_meaning.specs.Births.{Heap, Birth, Stack, get_object, bytes_in}
use Rattle.ir_meaning.specs.BirthChanges.{BirthsChange, same, wrote, bore, died, both}
use Rattle.ir_meaning.specs.State.{News, SourceFrame, SourceSeen, SourceOutcome}
use Rattle.ir_meaning.specs.StepEnds.{chain_of}
use Rattle.ir_meaning.specs.ArithmeticSteps.{binary_step, gives_or_traps, gives_comparison, icmp_step, cast_step, select_step, freeze_step, extract_step, bits_step, overflow_step}
use Rattle.ir_meaning.specs.AddressSteps.{alloca_step, gep_step}
use Rattle.ir_meaning.specs.MemorySteps.{load_step, store_step, rmw_step, cmpxchg_step}
use Rattle.ir_meaning.specs.BranchSteps.{goes_to, br_step, br_if_step, switch_step, unreachable_step}
use Rattle.ir_meaning.specs.CallSteps.{entry_of, call_step, frame_ended, death_news, last_return, returns_to, ret_step}
use Rattle.ir_meaning.specs.BlockFunctions.{block_of, births_with, births_copied, births_resized, freed, resized, malloc_step, calloc_step, free_step, realloc_step}
use Rattle.ir_meaning.specs.ByteFunctions.{copy_step, set_step, gives_order, memcmp_step}
use Rattle.ir_meaning.specs.Strings.{StringAnswer, Whole, Refused, MeetsPiece, NotEnded}
use Rattle.ir_meaning.specs.TextFunctions.{on_whole, strlen_step, puts_step, putchar_step, taken, taken_if, getchar_step, exit_step, abort_step}
use Rattle.ir_meaning.specs.TaskFunctions.{started, create_step, joined, join_step, mutex_init_step, mutex_lock_step, mutex_unlock_step, mutex_destroy_step}
use Rattle.ir_meaning.specs.LibraryCalls.{nothing_step, lifetime_step, function_step}
use Rattle.ir_meaning.specs.InstructionStep.{operation_step, source_step}
use Rattle.ir_meaning.proofs.ChangeEndings.{Changes, with_named-changes, with_integer-changes, with_pointer-changes, with_pair-changes, if-changes, on_arguments-changes, on_answer-changes, on_read-changes, on_integer-changes, on_accesses-changes}

-- ---- values

gives_or_traps-changes : (s : SourceSeen) (result : Option ℕ) (r : Result ℕ Trap) → Changes s.shared.births (gives_or_traps s result r)
gives_or_traps-changes s result (Ok n) = same s.shared.births
gives_or_traps-changes s result (Err trap) = same s.shared.births

binary_step-changes : (s : SourceSeen) (result : Option ℕ) (op : BinOp) (width : ℕ) (a b : Option Value) → Changes s.shared.births (binary_step s result op width a b)
unfolding binary_step
binary_step-changes s result op width a b =
    with_integer-changes s.shared.births width a _ (λ x. with_integer-changes s.shared.births width b _ (λ y. gives_or_traps-changes s result _))

gives_comparison-changes : (s : SourceSeen) (result : Option ℕ) (o : Option Bool) → Changes s.shared.births (gives_comparison s result o)
gives_comparison-changes s result None = same s.shared.births
gives_comparison-changes s result (Some answer) = same s.shared.births

icmp_step-changes : (s : SourceSeen) (result : Option ℕ) (pred : Pred) (type : IrType) (a b : Option Value) → Changes s.shared.births (icmp_step s result pred type a b)
unfolding icmp_step
icmp_step-changes s result pred Void a b = tt
icmp_step-changes s result pred (Int width) a b =
    with_integer-changes s.shared.births width a _ (λ x. with_integer-changes s.shared.births width b _ (λ y. same s.shared.births))
icmp_step-changes s result pred Ptr a b =
    with_pointer-changes s.shared.births a _ (λ p x. with_pointer-changes s.shared.births b _ (λ q y. gives_comparison-changes s result _))
icmp_step-changes s result pred (Array count item) a b = tt
icmp_step-changes s result pred (Struct first count packed) a b = tt
icmp_step-changes s result pred Opaque a b = tt
icmp_step-changes s result pred (Pair width) a b = tt

cast_step-changes : (s : SourceSeen) (result : Option ℕ) (op : CastOp) (from to : ℕ) (a : Option Value) → Changes s.shared.births (cast_step s result op from to a)
unfolding cast_step
cast_step-changes s result op from to a = with_integer-changes s.shared.births from a _ (λ x. same s.shared.births)

select_step-changes : (s : SourceSeen) (result : Option ℕ) (cond a b : Option Value) → Changes s.shared.births (select_step s result cond a b)
unfolding select_step
select_step-changes s result cond a b =
    with_integer-changes s.shared.births 1 cond _ (λ c. with_named-changes s.shared.births _ _ (λ v. same s.shared.births))

freeze_step-changes : (s : SourceSeen) (result : Option ℕ) (a : Option Value) → Changes s.shared.births (freeze_step s result a)
unfolding freeze_step
freeze_step-changes s result a = with_named-changes s.shared.births _ _ (λ v. same s.shared.births)

extract_step-changes : (s : SourceSeen) (result : Option ℕ) (part : Option ℕ) (pair : Option Value) → Changes s.shared.births (extract_step s result part pair)
unfolding extract_step
extract_step-changes s result None pair = tt
extract_step-changes s result (Some part) pair = with_pair-changes s.shared.births pair _ (λ n bit. same s.shared.births)

bits_step-changes : (s : SourceSeen) (result : Option ℕ) (op : BitOp) (width : ℕ) (values : List (Option Value)) → Changes s.shared.births (bits_step s result op width values)
unfolding bits_step
bits_step-changes s result op width [] = tt
bits_step-changes s result op width (a ∷ []) = with_integer-changes s.shared.births width a _ (λ x. same s.shared.births)
bits_step-changes s result op width (a ∷ b ∷ []) =
    with_integer-changes s.shared.births width a _ (λ x. with_integer-changes s.shared.births width b _ (λ y. same s.shared.births))
bits_step-changes s result op width (a ∷ b ∷ c ∷ []) =
    with_integer-changes s.shared.births width a _ (λ x. with_integer-changes s.shared.births width b _ (λ y.
    with_integer-changes s.shared.births width c _ (λ z. same s.shared.births)))
bits_step-changes s result op width (a ∷ b ∷ c ∷ d ∷ values) = tt

overflow_step-changes : (s : SourceSeen) (result : Option ℕ) (op : OverOp) (width : ℕ) (values : List (Option Value)) → Changes s.shared.births (overflow_step s result op width values)
unfolding overflow_step
overflow_step-changes s result op width values =
    with_integer-changes s.shared.births width _ _ (λ x. with_integer-changes s.shared.births width _ _ (λ y. same s.shared.births))

-- ---- addresses

alloca_step-changes : (s : SourceSeen) (result : Option ℕ) (k : ℕ) → Changes s.shared.births (alloca_step s result k)
unfolding alloca_step
alloca_step-changes s result k = with_named-changes s.shared.births s.frame.birth _ (λ birth. same s.shared.births)

gep_step-changes : (program : Module) (s : SourceSeen) (result : Option ℕ) (ty : ℕ) (base : Option Value) (indices : List Placed) → Changes s.shared.births (gep_step program s result ty base indices)
unfolding gep_step
gep_step-changes program s result ty base indices =
    with_pointer-changes s.shared.births base _ (λ b off. with_named-changes s.shared.births _ _ (λ steps.
    with_named-changes s.shared.births _ _ (λ bytes. same s.shared.births)))

-- ---- memory

load_step-changes : (s : SourceSeen) (result : Option ℕ) (type : IrType) (align : ℕ) (at : Option Value) → Changes s.shared.births (load_step s result type align at)
unfolding load_step
load_step-changes s result Void align at = tt
load_step-changes s result (Int width) align at =
    with_pointer-changes s.shared.births at _ (λ base off.
    on_answer-changes s _ base off _ _ _ (on_integer-changes s _ _ (λ n. same s.shared.births)))
load_step-changes s result Ptr align at =
    with_pointer-changes s.shared.births at _ (λ base off.
    on_answer-changes s _ base off _ _ _ (on_read-changes s _ _ (λ v. same s.shared.births)))
load_step-changes s result (Array count item) align at = tt
load_step-changes s result (Struct first count packed) align at = tt
load_step-changes s result Opaque align at = tt
load_step-changes s result (Pair width) align at = tt

store_step-changes : (s : SourceSeen) (type : IrType) (align : ℕ) (value at : Option Value) → Changes s.shared.births (store_step s type align value at)
unfolding store_step
store_step-changes s Void align value at = tt
store_step-changes s (Int width) align value at =
    with_integer-changes s.shared.births width value _ (λ n. with_pointer-changes s.shared.births at _ (λ base off.
    on_answer-changes s _ base off _ _ _ (wrote s.shared.births base off _)))
store_step-changes s Ptr align value at =
    with_pointer-changes s.shared.births value _ (λ p x. with_pointer-changes s.shared.births at _ (λ base off.
    on_answer-changes s _ base off _ _ _ (wrote s.shared.births base off _)))
store_step-changes s (Array count item) align value at = tt
store_step-changes s (Struct first count packed) align value at = tt
store_step-changes s Opaque align value at = tt
store_step-changes s (Pair width) align value at = tt

rmw_step-changes : (s : SourceSeen) (result : Option ℕ) (op : RmwOp) (type : IrType) (align : ℕ) (at value : Option Value) → Changes s.shared.births (rmw_step s result op type align at value)
unfolding rmw_step
rmw_step-changes s result op Void align at value = tt
rmw_step-changes s result op (Int width) align at value =
    with_pointer-changes s.shared.births at _ (λ base off. with_integer-changes s.shared.births width value _ (λ operand.
    on_answer-changes s _ base off _ _ _ (on_integer-changes s _ _ (λ old. wrote s.shared.births base off _))))
rmw_step-changes s result op Ptr align at value = tt
rmw_step-changes s result op (Array count item) align at value = tt
rmw_step-changes s result op (Struct first count packed) align at value = tt
rmw_step-changes s result op Opaque align at value = tt
rmw_step-changes s result op (Pair width) align at value = tt

cmpxchg_step-changes : (s : SourceSeen) (result : Option ℕ) (type : IrType) (align : ℕ) (at expected new : Option Value) → Changes s.shared.births (cmpxchg_step s result type align at expected new)
unfolding cmpxchg_step
cmpxchg_step-changes s result Void align at expected new = tt
cmpxchg_step-changes s result (Int width) align at expected new =
    with_pointer-changes s.shared.births at _ (λ base off. with_integer-changes s.shared.births width expected _ (λ wanted.
    with_integer-changes s.shared.births width new _ (λ replacement.
    on_answer-changes s _ base off _ _ _ (on_integer-changes s _ _ (λ old.
    if-changes s.shared.births (old == wanted) _ _ (wrote s.shared.births base off _) (same s.shared.births))))))
cmpxchg_step-changes s result Ptr align at expected new = tt
cmpxchg_step-changes s result (Array count item) align at expected new = tt
cmpxchg_step-changes s result (Struct first count packed) align at expected new = tt
cmpxchg_step-changes s result Opaque align at expected new = tt
cmpxchg_step-changes s result (Pair width) align at expected new = tt

-- ---- branches, calls and returns

goes_to-changes : (program : Module) (f : Function) (s : SourceSeen) (target : ℕ) → Changes s.shared.births (goes_to program f s target)
goes_to-changes program f s target =
    with_named-changes s.shared.births _ _ (λ block. with_named-changes s.shared.births _ _ (λ values. same s.shared.births))

br_step-changes : (program : Module) (f : Function) (s : SourceSeen) (target : ℕ) → Changes s.shared.births (br_step program f s target)
unfolding br_step
br_step-changes program f s target = goes_to-changes program f s target

br_if_step-changes : (program : Module) (f : Function) (s : SourceSeen) (cond : Option Value) (a b : ℕ) → Changes s.shared.births (br_if_step program f s cond a b)
unfolding br_if_step
br_if_step-changes program f s cond a b = with_integer-changes s.shared.births 1 cond _ (λ c. goes_to-changes program f s _)

switch_step-changes : (program : Module) (f : Function) (s : SourceSeen) (width : ℕ) (on : Option Value) (other : ℕ) (cases : List Case) → Changes s.shared.births (switch_step program f s width on other cases)
unfolding switch_step
switch_step-changes program f s width on other cases = with_integer-changes s.shared.births width on _ (λ n. goes_to-changes program f s _)

unreachable_step-changes : (s : SourceSeen) → Changes s.shared.births (unreachable_step s)
unfolding unreachable_step
unreachable_step-changes s = same s.shared.births

pub entry_of-changes : (births : List Birth) (func task : ℕ) (chain : List Site) (sizes : List ℕ) → BirthsChange births (entry_of births func task chain sizes).births (entry_of births func task chain sizes).news
entry_of-changes births func task chain [] = same births
entry_of-changes births func task chain (size ∷ sizes) = bore births (Stack func) task chain (size ∷ sizes)

call_step-changes : (program : Module) (s : SourceSeen) (func : ℕ) (arguments : List (Option Value)) → Changes s.shared.births (call_step program s func arguments)
unfolding call_step
call_step-changes program s func arguments =
    with_named-changes s.shared.births _ _ (λ f. with_named-changes s.shared.births _ _ (λ values.
    on_arguments-changes s.shared.births f values _
    (if-changes s.shared.births (nat_le MOST_FRAMES (length s.callers + 1)) _ _ (same s.shared.births)
    (entry_of-changes s.shared.births func s.task (chain_of s) f.allocas))))

frame_ended-changes : (s : SourceSeen) (birth : Option ℕ) → BirthsChange s.shared.births (frame_ended s birth).births (death_news s birth)
frame_ended-changes s None = same s.shared.births
frame_ended-changes s (Some birth) = died s.shared.births birth s.task (chain_of s)

last_return-changes : (s : SourceSeen) (value : Option Value) (task : ℕ) → Changes s.shared.births (last_return s value task)
last_return-changes s value zero = with_integer-changes s.shared.births 32 value _ (λ n. frame_ended-changes s s.frame.birth)
last_return-changes s value (suc task) = frame_ended-changes s s.frame.birth

returns_to-changes : (program : Module) (s : SourceSeen) (value : Option Value) (callers : List SourceFrame) → Changes s.shared.births (returns_to program s value callers)
returns_to-changes program s value [] = last_return-changes s value s.task
returns_to-changes program s value (caller ∷ callers) = frame_ended-changes s s.frame.birth

ret_step-changes : (program : Module) (s : SourceSeen) (returned : Option (Option Value)) → Changes s.shared.births (ret_step program s returned)
unfolding ret_step
ret_step-changes program s returned = with_named-changes s.shared.births _ _ (λ value. returns_to-changes program s value s.callers)

-- ---- blocks

malloc_step-changes : (s : SourceSeen) (result : Option ℕ) (values : List (Option Value)) → Changes s.shared.births (malloc_step s result values)
unfolding malloc_step
malloc_step-changes s result values = with_integer-changes s.shared.births 64 _ _ (λ n. bore s.shared.births Heap s.task (chain_of s) (n ∷ []))

calloc_step-changes : (s : SourceSeen) (result : Option ℕ) (values : List (Option Value)) → Changes s.shared.births (calloc_step s result values)
unfolding calloc_step
calloc_step-changes s result values =
    with_integer-changes s.shared.births 64 _ _ (λ n. with_integer-changes s.shared.births 64 _ _ (λ m.
    bore s.shared.births Heap s.task (chain_of s) _))

freed-changes : (s : SourceSeen) (base : Base) → Changes s.shared.births (freed s base)
freed-changes s Null = same s.shared.births
freed-changes s (Object o) = died s.shared.births o.birth s.task (chain_of s)

free_step-changes : (s : SourceSeen) (values : List (Option Value)) → Changes s.shared.births (free_step s values)
unfolding free_step
free_step-changes s values = with_pointer-changes s.shared.births _ _ (λ base off. freed-changes s base)

resized-changes : (s : SourceSeen) (result : Option ℕ) (base : Base) (size : ℕ) → Changes s.shared.births (resized s result base size)
resized-changes s result Null size = bore s.shared.births Heap s.task (chain_of s) (size ∷ [])
resized-changes s result (Object o) size =
    both s.shared.births (births_with s size) (births_resized s o size) _ _
    (bore s.shared.births Heap s.task (chain_of s) (size ∷ []))
    (both (births_with s size) (births_copied s o size) (births_resized s o size) [] _
    (wrote (births_with s size) (Object (block_of (length s.shared.births))) 0 (take size (bytes_in (get_object s.shared.births o))))
    (died (births_copied s o size) o.birth s.task (chain_of s)))

realloc_step-changes : (s : SourceSeen) (result : Option ℕ) (values : List (Option Value)) → Changes s.shared.births (realloc_step s result values)
unfolding realloc_step
realloc_step-changes s result values =
    with_pointer-changes s.shared.births _ _ (λ base off. with_integer-changes s.shared.births 64 _ _ (λ size. resized-changes s result base size))

-- ---- bytes and strings

copy_step-changes : (s : SourceSeen) (result : Option ℕ) (values : List (Option Value)) → Changes s.shared.births (copy_step s result values)
unfolding copy_step
copy_step-changes s result values =
    with_pointer-changes s.shared.births _ _ (λ to to_off. with_pointer-changes s.shared.births _ _ (λ from from_off.
    with_integer-changes s.shared.births 64 _ _ (λ count. wrote s.shared.births to to_off _)))

set_step-changes : (s : SourceSeen) (result : Option ℕ) (values : List (Option Value)) → Changes s.shared.births (set_step s result values)
unfolding set_step
set_step-changes s result values =
    with_pointer-changes s.shared.births _ _ (λ to to_off. with_integer-changes s.shared.births 32 _ _ (λ byte.
    with_integer-changes s.shared.births 64 _ _ (λ count. wrote s.shared.births to to_off _)))

gives_order-changes : (s : SourceSeen) (result : Option ℕ) (xs ys : Option (List ℕ)) → Changes s.shared.births (gives_order s result xs ys)
gives_order-changes s result None ys = same s.shared.births
gives_order-changes s result (Some xs) None = same s.shared.births
gives_order-changes s result (Some xs) (Some ys) = same s.shared.births

memcmp_step-changes : (s : SourceSeen) (result : Option ℕ) (values : List (Option Value)) → Changes s.shared.births (memcmp_step s result values)
unfolding memcmp_step
memcmp_step-changes s result values =
    with_pointer-changes s.shared.births _ _ (λ a a_off. with_pointer-changes s.shared.births _ _ (λ b b_off.
    with_integer-changes s.shared.births 64 _ _ (λ count. gives_order-changes s result _ _)))

on_whole-changes : (births : List Birth) (found : StringAnswer) (go : List ℕ → SourceOutcome) → ((ns : List ℕ) → Changes births (go ns)) → Changes births (on_whole found go)
unfolding on_whole
on_whole-changes births (Whole ns) go h = h ns
on_whole-changes births (Refused off refusal) go h = tt
on_whole-changes births MeetsPiece go h = tt
on_whole-changes births NotEnded go h = tt

strlen_step-changes : (s : SourceSeen) (result : Option ℕ) (values : List (Option Value)) → Changes s.shared.births (strlen_step s result values)
unfolding strlen_step
strlen_step-changes s result values =
    with_pointer-changes s.shared.births _ _ (λ base off. on_whole-changes s.shared.births _ _ (λ ns. same s.shared.births))

puts_step-changes : (s : SourceSeen) (result : Option ℕ) (values : List (Option Value)) → Changes s.shared.births (puts_step s result values)
unfolding puts_step
puts_step-changes s result values =
    with_pointer-changes s.shared.births _ _ (λ base off. on_whole-changes s.shared.births _ _ (λ ns. same s.shared.births))

putchar_step-changes : (s : SourceSeen) (result : Option ℕ) (values : List (Option Value)) → Changes s.shared.births (putchar_step s result values)
unfolding putchar_step
putchar_step-changes s result values = with_integer-changes s.shared.births 32 _ _ (λ c. same s.shared.births)

taken-changes : (s : SourceSeen) (result : Option ℕ) (next : Input) → Changes s.shared.births (taken s result next)
taken-changes s result (Byte byte) = same s.shared.births
taken-changes s result End = same s.shared.births

taken_if-changes : (at_end : Bool) (s : SourceSeen) (result : Option ℕ) (next : Input) → Changes s.shared.births (taken_if at_end s result next)
taken_if-changes true s result next = same s.shared.births
taken_if-changes false s result next = taken-changes s result next

getchar_step-changes : (next : Input) (s : SourceSeen) (result : Option ℕ) → Changes s.shared.births (getchar_step next s result)
unfolding getchar_step
getchar_step-changes next s result = taken_if-changes s.shared.input.at_end s result next

exit_step-changes : (s : SourceSeen) (values : List (Option Value)) → Changes s.shared.births (exit_step s values)
unfolding exit_step
exit_step-changes s values = with_integer-changes s.shared.births 32 _ _ (λ c. same s.shared.births)

abort_step-changes : (s : SourceSeen) → Changes s.shared.births (abort_step s)
unfolding abort_step
abort_step-changes s = same s.shared.births

-- ---- tasks

append-nothing : (births after : List Birth) (news : List News) → BirthsChange births after (news ++ []) → BirthsChange births after news
append-nothing births after news h = subst (λ later. BirthsChange births after later) (append-nil news) h

started-changes : (s : SourceSeen) (result : Option ℕ) (base : Base) (off : ℕ) (f : Function) (func : ℕ) (value : Value) → Changes s.shared.births (started s result base off f func value)
started-changes s result base off f func value =
    if-changes s.shared.births (nat_le MOST_TASKS (length s.finished)) _ _ (same s.shared.births)
    (append-nothing s.shared.births _ _
    (both s.shared.births _ _ _ [] (entry_of-changes s.shared.births func (length s.finished) (chain_of s) f.allocas) (wrote _ base off _)))

create_step-changes : (program : Module) (s : SourceSeen) (result : Option ℕ) (values : List (Option Value)) (start : Option StartArg) → Changes s.shared.births (create_step program s result values start)
unfolding create_step
create_step-changes program s result values start =
    with_named-changes s.shared.births start _ (λ begin. with_named-changes s.shared.births _ _ (λ f.
    with_pointer-changes s.shared.births _ _ (λ base off. with_named-changes s.shared.births _ _ (λ value.
    on_arguments-changes s.shared.births f _ _ (started-changes s result base off f begin.func value)))))

joined-changes : (s : SourceSeen) (result : Option ℕ) (o : Option Bool) → Changes s.shared.births (joined s result o)
joined-changes s result None = same s.shared.births
joined-changes s result (Some false) = tt
joined-changes s result (Some true) = same s.shared.births

join_step-changes : (s : SourceSeen) (result : Option ℕ) (values : List (Option Value)) → Changes s.shared.births (join_step s result values)
unfolding join_step
join_step-changes s result values = with_integer-changes s.shared.births 64 _ _ (λ task. joined-changes s result _)

mutex_init_step-changes : (s : SourceSeen) (result : Option ℕ) (values : List (Option Value)) → Changes s.shared.births (mutex_init_step s result values)
unfolding mutex_init_step
mutex_init_step-changes s result values = with_pointer-changes s.shared.births _ _ (λ base off. wrote s.shared.births base off _)

mutex_lock_step-changes : (s : SourceSeen) (result : Option ℕ) (values : List (Option Value)) → Changes s.shared.births (mutex_lock_step s result values)
unfolding mutex_lock_step
mutex_lock_step-changes s result values =
    with_pointer-changes s.shared.births _ _ (λ base off. on_integer-changes s _ _ (λ word.
    if-changes s.shared.births (word == 0) _ _ (wrote s.shared.births base off _) tt))

mutex_unlock_step-changes : (s : SourceSeen) (result : Option ℕ) (values : List (Option Value)) → Changes s.shared.births (mutex_unlock_step s result values)
unfolding mutex_unlock_step
mutex_unlock_step-changes s result values =
    with_pointer-changes s.shared.births _ _ (λ base off. on_integer-changes s _ _ (λ word.
    if-changes s.shared.births (word == s.task + 1) _ _ (wrote s.shared.births base off _) (same s.shared.births)))

mutex_destroy_step-changes : (s : SourceSeen) (result : Option ℕ) → Changes s.shared.births (mutex_destroy_step s result)
unfolding mutex_destroy_step
mutex_destroy_step-changes s result = same s.shared.births

-- ---- all steps

nothing_step-changes : (s : SourceSeen) → Changes s.shared.births (nothing_step s)
unfolding nothing_step
nothing_step-changes s = same s.shared.births

lifetime_step-changes : (s : SourceSeen) (args : List Placed) → Changes s.shared.births (lifetime_step s args)
unfolding lifetime_step
lifetime_step-changes s args = same s.shared.births

function_step-changes : (program : Module) (next : Input) (s : SourceSeen) (result : Option ℕ) (args : List Placed) (values : List (Option Value)) (start : Option StartArg) (function : Lib) → Changes s.shared.births (function_step program next s result args values start function)
function_step-changes program next s result args values start lib.Malloc = malloc_step-changes s result values
function_step-changes program next s result args values start lib.Calloc = calloc_step-changes s result values
function_step-changes program next s result args values start lib.Free = free_step-changes s values
function_step-changes program next s result args values start lib.Realloc = realloc_step-changes s result values
function_step-changes program next s result args values start lib.Memcpy = copy_step-changes s result values
function_step-changes program next s result args values start lib.Memmove = copy_step-changes s result values
function_step-changes program next s result args values start lib.Memset = set_step-changes s result values
function_step-changes program next s result args values start lib.LlvmMemcpy = copy_step-changes s None values
function_step-changes program next s result args values start lib.LlvmMemmove = copy_step-changes s None values
function_step-changes program next s result args values start lib.LlvmMemset = set_step-changes s None values
function_step-changes program next s result args values start lib.Memcmp = memcmp_step-changes s result values
function_step-changes program next s result args values start lib.Strlen = strlen_step-changes s result values
function_step-changes program next s result args values start lib.Puts = puts_step-changes s result values
function_step-changes program next s result args values start lib.Putchar = putchar_step-changes s result values
function_step-changes program next s result args values start lib.Getchar = getchar_step-changes next s result
function_step-changes program next s result args values start lib.Exit = exit_step-changes s values
function_step-changes program next s result args values start lib.Abort = abort_step-changes s
function_step-changes program next s result args values start lib.LlvmTrap = abort_step-changes s
function_step-changes program next s result args values start lib.PthreadCreate = create_step-changes program s result values start
function_step-changes program next s result args values start lib.PthreadJoin = join_step-changes s result values
function_step-changes program next s result args values start lib.MutexInit = mutex_init_step-changes s result values
function_step-changes program next s result args values start lib.MutexLock = mutex_lock_step-changes s result values
function_step-changes program next s result args values start lib.MutexUnlock = mutex_unlock_step-changes s result values
function_step-changes program next s result args values start lib.MutexDestroy = mutex_destroy_step-changes s result
function_step-changes program next s result args values start lib.LifetimeStart = lifetime_step-changes s args
function_step-changes program next s result args values start lib.LifetimeEnd = lifetime_step-changes s args
function_step-changes program next s result args values start lib.Assume = nothing_step-changes s
function_step-changes program next s result args values start (lib.Bits op width) = bits_step-changes s result op width values
function_step-changes program next s result args values start (lib.Overflow op width) = overflow_step-changes s result op width values

operation_step-changes : (program : Module) (next : Input) (f : Function) (s : SourceSeen) (result : Option ℕ) (operation : Op) → Changes s.shared.births (operation_step program next f s result operation)
operation_step-changes program next f s result (op.Binary kind a b) = binary_step-changes s result kind _ _ _
operation_step-changes program next f s result (op.Icmp pred a b) = icmp_step-changes s result pred _ _ _
operation_step-changes program next f s result (op.Cast kind a to) = cast_step-changes s result kind _ _ _
operation_step-changes program next f s result (op.Select cond a b) = select_step-changes s result _ _ _
operation_step-changes program next f s result (op.Freeze a) = freeze_step-changes s result _
operation_step-changes program next f s result (op.Phi ty entries) = tt
operation_step-changes program next f s result (op.Alloca index ty count) = alloca_step-changes s result index
operation_step-changes program next f s result (op.Load ty at align) = load_step-changes s result _ align _
operation_step-changes program next f s result (op.Store value at align) = store_step-changes s _ align _ _
operation_step-changes program next f s result (op.Gep ty base indices) = gep_step-changes program s result ty _ indices
operation_step-changes program next f s result op.Fence = nothing_step-changes s
operation_step-changes program next f s result (op.Rmw kind at value align) = rmw_step-changes s result kind _ align _ _
operation_step-changes program next f s result (op.CmpXchg at expected new align) = cmpxchg_step-changes s result _ align _ _ _
operation_step-changes program next f s result (op.ExtractValue pair part) = extract_step-changes s result part _
operation_step-changes program next f s result (op.Call func ty args) = call_step-changes program s func _
operation_step-changes program next f s result (op.CallLib declare ty args start) =
    with_named-changes s.shared.births _ _ (λ d.
    on_accesses-changes s _ (accesses_of d.lib) _ (function_step-changes program next s result args _ start d.lib))
operation_step-changes program next f s result (op.Br block) = br_step-changes program f s block
operation_step-changes program next f s result (op.BrIf cond at_one at_zero) = br_if_step-changes program f s _ at_one at_zero
operation_step-changes program next f s result (op.Switch on other cases) = switch_step-changes program f s _ _ other cases
operation_step-changes program next f s result (op.Ret value) = ret_step-changes program s _
operation_step-changes program next f s result op.Unreachable = unreachable_step-changes s

-- a step does to births what it reports, and nothing else but writes
pub source_step-changes : (program : Module) (next : Input) (s : SourceSeen) → Changes s.shared.births (source_step program next s)
source_step-changes program next s =
    with_named-changes s.shared.births _ _ (λ f. with_named-changes s.shared.births _ _ (λ i. operation_step-changes program next f s i.result i.op))
