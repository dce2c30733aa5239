-- The accesses to memory that a declared function makes, one line a function (ISO C, "Library"; POSIX, "pthread.h"; LLVM
-- Language Reference, "Standard C/C++ Library Intrinsics"). The source's semantics takes them in this order before
-- anything else, and the instrumentation adds their checks in this order.
use Rattle.std.specs.Prelude.{ℕ, List, [], ◌∷◌}
use Rattle.hw_base.specs.declared.accesses.Access.{Access}
use Rattle.hw_base.specs.declared.accesses.Access.TheVariants.{Read, Write}
use Rattle.hw_base.specs.declared.numbers.TheConstants.{MUTEX_SIZE, TASK_NUMBER_SIZE}
use Rattle.ir_core.specs.declared.lib_functions.Lib.{Lib}
use Rattle.ir_core.specs.declared.lib_functions.Lib.TheVariants as lib

-- An access, by the places of arguments counted from 0: to as many bytes as an argument says, through another one, at any
-- alignment; to a fixed number of bytes, aligned to that number; to the bytes of a string, one by one, up to its first 0; or the
-- free of a block.
pub data LibraryAccess : Type 0 where
  Counted : Access → (pointer count : ℕ) → LibraryAccess
  Fixed : Access → (pointer size : ℕ) → LibraryAccess
  Text : (pointer : ℕ) → LibraryAccess
  Freed : (pointer : ℕ) → LibraryAccess

-- a copy reads its source and then writes its destination
abbrev pub copy_accesses : List LibraryAccess
copy_accesses = Counted Read 1 2 ∷ Counted Write 0 2 ∷ []

abbrev pub mutex_accesses : List LibraryAccess
mutex_accesses = Fixed Write 0 MUTEX_SIZE ∷ []

abbrev pub accesses_of : Lib → List LibraryAccess
accesses_of lib.Malloc = []
accesses_of lib.Calloc = []
accesses_of lib.Free = Freed 0 ∷ []
accesses_of lib.Realloc = Freed 0 ∷ []
accesses_of lib.Memcpy = copy_accesses
accesses_of lib.Memmove = copy_accesses
accesses_of lib.Memset = Counted Write 0 2 ∷ []
accesses_of lib.LlvmMemcpy = copy_accesses
accesses_of lib.LlvmMemmove = copy_accesses
accesses_of lib.LlvmMemset = Counted Write 0 2 ∷ []
accesses_of lib.Memcmp = Counted Read 0 2 ∷ Counted Read 1 2 ∷ []
accesses_of lib.Strlen = Text 0 ∷ []
accesses_of lib.Puts = Text 0 ∷ []
accesses_of lib.Putchar = []
accesses_of lib.Getchar = []
accesses_of lib.Exit = []
accesses_of lib.Abort = []
accesses_of lib.LlvmTrap = []
accesses_of lib.PthreadCreate = Fixed Write 0 TASK_NUMBER_SIZE ∷ []
accesses_of lib.PthreadJoin = []
accesses_of lib.MutexInit = mutex_accesses
accesses_of lib.MutexLock = mutex_accesses
accesses_of lib.MutexUnlock = mutex_accesses
accesses_of lib.MutexDestroy = []
accesses_of lib.LifetimeStart = []
accesses_of lib.LifetimeEnd = []
accesses_of lib.Assume = []
accesses_of (lib.Bits op width) = []
accesses_of (lib.Overflow op width) = []
