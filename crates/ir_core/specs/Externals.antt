-- The names of the functions that a module may declare and call without defining them: those of the C library and of
-- POSIX threads (ISO C, "Library"; POSIX, "pthread.h"), and the intrinsics of LLVM (LLVM Language Reference, "Intrinsic
-- Functions"). Which of them there are is this project's choice.
use Rattle.std.specs.Prelude.{ℕ, List, [], ◌++◌, ◌≡◌, ◌≢◌, Option, MatchOption, ◌≤◌, codes, decimal}
use Rattle.hw_base.specs.declared.operators.BitOp.TheVariants.{BSwap, CtPop, CtLz, CtTz, FShl, FShr, SMin, SMax, UMin, UMax, Abs, Expect}
use Rattle.hw_base.specs.declared.operators.OverOp.TheVariants.{SAdd, UAdd, SSub, USub, SMul, UMul}
use Rattle.hw_base.specs.ByteSwap.{HasPairs}
use Rattle.ir_core.specs.declared.lib_functions.Lib.{Lib}
use Rattle.ir_core.specs.declared.lib_functions.Lib.TheVariants.{Malloc, Calloc, Free, Realloc, Memcpy, Memmove, Memset, LlvmMemcpy, LlvmMemmove, LlvmMemset, Memcmp, Strlen, Puts, Putchar, Getchar, Exit, Abort, LlvmTrap, PthreadCreate, PthreadJoin, MutexInit, MutexLock, MutexUnlock, MutexDestroy, LifetimeStart, LifetimeEnd, Assume, Bits, Overflow}

-- the name of a function, but for the width at its end
abbrev pub name_stem : Lib → List ℕ
name_stem Malloc = codes "malloc"
name_stem Calloc = codes "calloc"
name_stem Free = codes "free"
name_stem Realloc = codes "realloc"
name_stem Memcpy = codes "memcpy"
name_stem Memmove = codes "memmove"
name_stem Memset = codes "memset"
name_stem LlvmMemcpy = codes "llvm.memcpy.p0.p0.i64"
name_stem LlvmMemmove = codes "llvm.memmove.p0.p0.i64"
name_stem LlvmMemset = codes "llvm.memset.p0.i64"
name_stem Memcmp = codes "memcmp"
name_stem Strlen = codes "strlen"
name_stem Puts = codes "puts"
name_stem Putchar = codes "putchar"
name_stem Getchar = codes "getchar"
name_stem Exit = codes "exit"
name_stem Abort = codes "abort"
name_stem LlvmTrap = codes "llvm.trap"
name_stem PthreadCreate = codes "pthread_create"
name_stem PthreadJoin = codes "pthread_join"
name_stem MutexInit = codes "pthread_mutex_init"
name_stem MutexLock = codes "pthread_mutex_lock"
name_stem MutexUnlock = codes "pthread_mutex_unlock"
name_stem MutexDestroy = codes "pthread_mutex_destroy"
name_stem LifetimeStart = codes "llvm.lifetime.start.p0"
name_stem LifetimeEnd = codes "llvm.lifetime.end.p0"
name_stem Assume = codes "llvm.assume"
name_stem (Bits BSwap width) = codes "llvm.bswap.i"
name_stem (Bits CtPop width) = codes "llvm.ctpop.i"
name_stem (Bits CtLz width) = codes "llvm.ctlz.i"
name_stem (Bits CtTz width) = codes "llvm.cttz.i"
name_stem (Bits FShl width) = codes "llvm.fshl.i"
name_stem (Bits FShr width) = codes "llvm.fshr.i"
name_stem (Bits SMin width) = codes "llvm.smin.i"
name_stem (Bits SMax width) = codes "llvm.smax.i"
name_stem (Bits UMin width) = codes "llvm.umin.i"
name_stem (Bits UMax width) = codes "llvm.umax.i"
name_stem (Bits Abs width) = codes "llvm.abs.i"
name_stem (Bits Expect width) = codes "llvm.expect.i"
name_stem (Overflow SAdd width) = codes "llvm.sadd.with.overflow.i"
name_stem (Overflow UAdd width) = codes "llvm.uadd.with.overflow.i"
name_stem (Overflow SSub width) = codes "llvm.ssub.with.overflow.i"
name_stem (Overflow USub width) = codes "llvm.usub.with.overflow.i"
name_stem (Overflow SMul width) = codes "llvm.smul.with.overflow.i"
name_stem (Overflow UMul width) = codes "llvm.umul.with.overflow.i"

-- the width at the end of a name, in decimal, where it has one
abbrev pub width_text : Lib → List ℕ
width_text (Bits op width) = decimal width
width_text (Overflow op width) = decimal width
width_text other = []

-- the name of a function
abbrev pub lib_name : Lib → List ℕ
lib_name lib = name_stem lib ++ width_text lib

-- a width of an integer in bits, as it is accepted
pub record IsWidth (width : ℕ) : Type 0 where
  pub some : 1 ≤ width
  pub most : width ≤ 128

-- the intrinsics are there at each width that is accepted
abbrev pub IsThere : Lib → Type 0
IsThere (Bits op width) = IsWidth width × HasPairs op width
IsThere (Overflow op width) = IsWidth width
IsThere other = Unit {0}

-- all functions whose names differ in the width alone, by the one of width 0
abbrev pub family : Lib → Lib
family (Bits op width) = Bits op 0
family (Overflow op width) = Overflow op 0
family other = other

-- a name means this function, or none where it is the name of none
abbrev pub IsExternal : List ℕ → Option Lib → Type 0
IsExternal name found = MatchOption found ((lib : Lib) → IsThere lib → lib_name lib ≢ name) (λ lib. IsThere lib × (lib_name lib ≡ name))
