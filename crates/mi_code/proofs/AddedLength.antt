-- How many instructions are added.
use Rattle.std.proofs.Common.{ℕ, ◌≤◌, List, [], ◌∷◌, length, subst, sym, lit≤}
use Rattle.std.proofs.lemmas.List.{length-map}
use Rattle.ir_core.specs.declared.lib_functions.Lib.{Lib}
use Rattle.ir_core.specs.declared.lib_functions.Lib.TheVariants as lib
use Rattle.ir_core.specs.declared.operands.Placed.{Placed}
use Rattle.ir_core.specs.declared.operations.Op.{Op}
use Rattle.ir_core.specs.declared.operations.Op.TheVariants as source
use Rattle.ir_core.specs.declared.ir_module.Module.{Module}
use Rattle.ir_core.specs.LibraryAccesses.{accesses_of}
use Rattle.mi_code.specs.TagChecks.{access_check, enter_code, leave_code, library_checks, lib_of, added_code}

-- a function makes at most two accesses
length-accesses_of : (function : Lib) → length (accesses_of function) ≤ 2
length-accesses_of lib.Malloc = lit≤ tt
length-accesses_of lib.Calloc = lit≤ tt
length-accesses_of lib.Free = lit≤ tt
length-accesses_of lib.Realloc = lit≤ tt
length-accesses_of lib.Memcpy = lit≤ tt
length-accesses_of lib.Memmove = lit≤ tt
length-accesses_of lib.Memset = lit≤ tt
length-accesses_of lib.LlvmMemcpy = lit≤ tt
length-accesses_of lib.LlvmMemmove = lit≤ tt
length-accesses_of lib.LlvmMemset = lit≤ tt
length-accesses_of lib.Memcmp = lit≤ tt
length-accesses_of lib.Strlen = lit≤ tt
length-accesses_of lib.Puts = lit≤ tt
length-accesses_of lib.Putchar = lit≤ tt
length-accesses_of lib.Getchar = lit≤ tt
length-accesses_of lib.Exit = lit≤ tt
length-accesses_of lib.Abort = lit≤ tt
length-accesses_of lib.LlvmTrap = lit≤ tt
length-accesses_of lib.PthreadCreate = lit≤ tt
length-accesses_of lib.PthreadJoin = lit≤ tt
length-accesses_of lib.MutexInit = lit≤ tt
length-accesses_of lib.MutexLock = lit≤ tt
length-accesses_of lib.MutexUnlock = lit≤ tt
length-accesses_of lib.MutexDestroy = lit≤ tt
length-accesses_of lib.LifetimeStart = lit≤ tt
length-accesses_of lib.LifetimeEnd = lit≤ tt
length-accesses_of lib.Assume = lit≤ tt
length-accesses_of (lib.Bits op width) = lit≤ tt
length-accesses_of (lib.Overflow op width) = lit≤ tt

length-library_checks : (function : Lib) (args : List Placed) → length (library_checks function args) ≤ 2
length-library_checks function args = subst (λ (n : ℕ). n ≤ 2) (sym (length-map (accesses_of function) (access_check args))) (length-accesses_of function)

pub length-enter_code : (sizes : List ℕ) → length (enter_code sizes) ≤ 1
length-enter_code [] = lit≤ tt
length-enter_code (size ∷ sizes) = lit≤ tt

length-leave_code : (sizes : List ℕ) → length (leave_code sizes) ≤ 2
length-leave_code [] = lit≤ tt
length-leave_code (size ∷ sizes) = lit≤ tt

pub length-added_code : (m : Module) (sizes : List ℕ) (op : Op) → length (added_code m sizes op) ≤ 2
length-added_code m sizes (source.Binary op a b) = lit≤ tt
length-added_code m sizes (source.Icmp pred a b) = lit≤ tt
length-added_code m sizes (source.Cast op a to) = lit≤ tt
length-added_code m sizes (source.Select cond a b) = lit≤ tt
length-added_code m sizes (source.Freeze a) = lit≤ tt
length-added_code m sizes (source.Phi ty entries) = lit≤ tt
length-added_code m sizes (source.Alloca index ty count) = lit≤ tt
length-added_code m sizes (source.Load ty at align) = lit≤ tt
length-added_code m sizes (source.Store value at align) = lit≤ tt
length-added_code m sizes (source.Gep ty base indices) = lit≤ tt
length-added_code m sizes source.Fence = lit≤ tt
length-added_code m sizes (source.Rmw op at value align) = lit≤ tt
length-added_code m sizes (source.CmpXchg at expected new align) = lit≤ tt
length-added_code m sizes (source.ExtractValue pair part) = lit≤ tt
length-added_code m sizes (source.Call func result args) = lit≤ tt
length-added_code m sizes (source.CallLib declare result args start) = length-library_checks (lib_of m declare) args
length-added_code m sizes (source.Br block) = lit≤ tt
length-added_code m sizes (source.BrIf cond first second) = lit≤ tt
length-added_code m sizes (source.Switch on other cases) = lit≤ tt
length-added_code m sizes (source.Ret value) = length-leave_code sizes
length-added_code m sizes source.Unreachable = lit≤ tt
