-- Calls of declared functions. The intrinsics on bits and with overflow are instructions of their own; the lifetime
-- intrinsics and `llvm.assume` do nothing. This project's choice.
use Rattle.std.specs.Prelude.{ℕ, List, Option, Some, None}
use Rattle.ir_core.specs.declared.lib_functions.Lib.{Lib}
use Rattle.ir_core.specs.declared.lib_functions.Lib.TheVariants as lib
use Rattle.ir_core.specs.declared.operands.Placed.{Placed}
use Rattle.ir_core.specs.declared.operands.StartArg.{StartArg}
use Rattle.ir_core.specs.declared.ir_module.Function.{Function}
use Rattle.mi_code.specs.declared.operations.MiOp.{MiOp}
use Rattle.mi_code.specs.declared.operations.MiOp.TheVariants as machine
use Rattle.mi_code.specs.MachineOperands.{operands_of, argument, result_register, call_result}

-- the function that `pthread_create` starts
abbrev pub start_function : Option StartArg → Option ℕ
start_function None = None
start_function (Some start) = Some start.func

-- a call that stays a call
abbrev pub outside_call : Lib → Option ℕ → List Placed → Option StartArg → MiOp
outside_call function result args start =
    machine.CallLib function (call_result result) (operands_of args) (start_function start)

-- a call of a library function, in a function
abbrev pub library_call : Function → Lib → Option ℕ → List Placed → Option StartArg → MiOp
library_call f lib.Malloc result args start = outside_call lib.Malloc result args start
library_call f lib.Calloc result args start = outside_call lib.Calloc result args start
library_call f lib.Free result args start = outside_call lib.Free result args start
library_call f lib.Realloc result args start = outside_call lib.Realloc result args start
library_call f lib.Memcpy result args start = outside_call lib.Memcpy result args start
library_call f lib.Memmove result args start = outside_call lib.Memmove result args start
library_call f lib.Memset result args start = outside_call lib.Memset result args start
library_call f lib.LlvmMemcpy result args start = outside_call lib.LlvmMemcpy result args start
library_call f lib.LlvmMemmove result args start = outside_call lib.LlvmMemmove result args start
library_call f lib.LlvmMemset result args start = outside_call lib.LlvmMemset result args start
library_call f lib.Memcmp result args start = outside_call lib.Memcmp result args start
library_call f lib.Strlen result args start = outside_call lib.Strlen result args start
library_call f lib.Puts result args start = outside_call lib.Puts result args start
library_call f lib.Putchar result args start = outside_call lib.Putchar result args start
library_call f lib.Getchar result args start = outside_call lib.Getchar result args start
library_call f lib.Exit result args start = outside_call lib.Exit result args start
library_call f lib.Abort result args start = outside_call lib.Abort result args start
library_call f lib.LlvmTrap result args start = outside_call lib.LlvmTrap result args start
library_call f lib.PthreadCreate result args start = outside_call lib.PthreadCreate result args start
library_call f lib.PthreadJoin result args start = outside_call lib.PthreadJoin result args start
library_call f lib.MutexInit result args start = outside_call lib.MutexInit result args start
library_call f lib.MutexLock result args start = outside_call lib.MutexLock result args start
library_call f lib.MutexUnlock result args start = outside_call lib.MutexUnlock result args start
library_call f lib.MutexDestroy result args start = outside_call lib.MutexDestroy result args start
library_call f lib.LifetimeStart result args start = machine.Nop
library_call f lib.LifetimeEnd result args start = machine.Nop
library_call f lib.Assume result args start = machine.Nop
library_call f (lib.Bits op width) result args start = machine.Bits op width (result_register f result) (operands_of args)
library_call f (lib.Overflow op width) result args start =
    machine.Overflow op width (result_register f result) (argument args 0) (argument args 1)
