-- The types of the functions that a module may declare and call without defining them (ISO C, "Library"; POSIX,
-- "pthread.h"; LLVM Language Reference, "Intrinsic Functions"), on 64-bit Arm.
use Rattle.std.specs.Prelude.{ℕ, List, [], ◌∷◌, Bool, true, false}
use Rattle.hw_base.specs.declared.operators.BitOp.{BitOp}
use Rattle.hw_base.specs.declared.operators.BitOp.TheVariants.{BSwap, CtPop, CtLz, CtTz, FShl, FShr, SMin, SMax, UMin, UMax, Abs, Expect}
use Rattle.ir_core.specs.declared.types.IrType.{IrType}
use Rattle.ir_core.specs.declared.types.IrType.TheVariants.{Void, Int, Ptr, Pair}
use Rattle.ir_core.specs.declared.lib_functions.Lib.{Lib}
use Rattle.ir_core.specs.declared.lib_functions.Lib.TheVariants.{Malloc, Calloc, Free, Realloc, Memcpy, Memmove, Memset, LlvmMemcpy, LlvmMemmove, LlvmMemset, Memcmp, Strlen, Puts, Putchar, Getchar, Exit, Abort, LlvmTrap, PthreadCreate, PthreadJoin, MutexInit, MutexLock, MutexUnlock, MutexDestroy, LifetimeStart, LifetimeEnd, Assume, Bits, Overflow}

-- the parameters of an intrinsic on bits
abbrev pub bits_parameters : BitOp → (width : ℕ) → List IrType
bits_parameters BSwap width = Int width ∷ []
bits_parameters CtPop width = Int width ∷ []
bits_parameters CtLz width = Int width ∷ Int 1 ∷ []
bits_parameters CtTz width = Int width ∷ Int 1 ∷ []
bits_parameters FShl width = Int width ∷ Int width ∷ Int width ∷ []
bits_parameters FShr width = Int width ∷ Int width ∷ Int width ∷ []
bits_parameters SMin width = Int width ∷ Int width ∷ []
bits_parameters SMax width = Int width ∷ Int width ∷ []
bits_parameters UMin width = Int width ∷ Int width ∷ []
bits_parameters UMax width = Int width ∷ Int width ∷ []
bits_parameters Abs width = Int width ∷ Int 1 ∷ []
bits_parameters Expect width = Int width ∷ Int width ∷ []

-- the result of a function
abbrev pub lib_result : Lib → IrType
lib_result Malloc = Ptr
lib_result Calloc = Ptr
lib_result Free = Void
lib_result Realloc = Ptr
lib_result Memcpy = Ptr
lib_result Memmove = Ptr
lib_result Memset = Ptr
lib_result LlvmMemcpy = Void
lib_result LlvmMemmove = Void
lib_result LlvmMemset = Void
lib_result Memcmp = Int 32
lib_result Strlen = Int 64
lib_result Puts = Int 32
lib_result Putchar = Int 32
lib_result Getchar = Int 32
lib_result Exit = Void
lib_result Abort = Void
lib_result LlvmTrap = Void
lib_result PthreadCreate = Int 32
lib_result PthreadJoin = Int 32
lib_result MutexInit = Int 32
lib_result MutexLock = Int 32
lib_result MutexUnlock = Int 32
lib_result MutexDestroy = Int 32
lib_result LifetimeStart = Void
lib_result LifetimeEnd = Void
lib_result Assume = Void
lib_result (Bits op width) = Int width
lib_result (Overflow op width) = Pair width

-- the parameters of a function
abbrev pub lib_parameters : Lib → List IrType
lib_parameters Malloc = Int 64 ∷ []
lib_parameters Calloc = Int 64 ∷ Int 64 ∷ []
lib_parameters Free = Ptr ∷ []
lib_parameters Realloc = Ptr ∷ Int 64 ∷ []
lib_parameters Memcpy = Ptr ∷ Ptr ∷ Int 64 ∷ []
lib_parameters Memmove = Ptr ∷ Ptr ∷ Int 64 ∷ []
lib_parameters Memset = Ptr ∷ Int 32 ∷ Int 64 ∷ []
lib_parameters LlvmMemcpy = Ptr ∷ Ptr ∷ Int 64 ∷ Int 1 ∷ []
lib_parameters LlvmMemmove = Ptr ∷ Ptr ∷ Int 64 ∷ Int 1 ∷ []
lib_parameters LlvmMemset = Ptr ∷ Int 8 ∷ Int 64 ∷ Int 1 ∷ []
lib_parameters Memcmp = Ptr ∷ Ptr ∷ Int 64 ∷ []
lib_parameters Strlen = Ptr ∷ []
lib_parameters Puts = Ptr ∷ []
lib_parameters Putchar = Int 32 ∷ []
lib_parameters Getchar = []
lib_parameters Exit = Int 32 ∷ []
lib_parameters Abort = []
lib_parameters LlvmTrap = []
lib_parameters PthreadCreate = Ptr ∷ Ptr ∷ Ptr ∷ Ptr ∷ []
lib_parameters PthreadJoin = Int 64 ∷ Ptr ∷ []
lib_parameters MutexInit = Ptr ∷ Ptr ∷ []
lib_parameters MutexLock = Ptr ∷ []
lib_parameters MutexUnlock = Ptr ∷ []
lib_parameters MutexDestroy = Ptr ∷ []
lib_parameters LifetimeStart = Ptr ∷ []
lib_parameters LifetimeEnd = Ptr ∷ []
lib_parameters Assume = Int 1 ∷ []
lib_parameters (Bits op width) = bits_parameters op width
lib_parameters (Overflow op width) = Int width ∷ Int width ∷ []

-- the functions that may have the size of the variable, an `i64`, before it
abbrev pub is_lifetime : Lib → Bool
is_lifetime LifetimeStart = true
is_lifetime LifetimeEnd = true
is_lifetime other = false
