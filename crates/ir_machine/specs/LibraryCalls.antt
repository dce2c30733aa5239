-- The call of a library function, one line a function. The arguments' widths are those of its declaration.
use Rattle.std.specs.Prelude.{ℕ, List, Option, None}
use Rattle.hw_base.specs.declared.endings.Input.{Input}
use Rattle.hw_base.specs.declared.pointers.Site.{Site}
use Rattle.ir_core.specs.declared.lib_functions.Lib.{Lib}
use Rattle.ir_core.specs.declared.lib_functions.Lib.TheVariants as lib
use Rattle.mi_code.specs.declared.operands.MiOperand.{MiOperand}
use Rattle.ir_machine.specs.State.{MachineSetting, MachineSeen, MachineOutcome}
use Rattle.ir_machine.specs.Operands.{number_in, argument_at, pointer_argument, long_argument, int_argument}
use Rattle.ir_machine.specs.StepEnds.{goes_on}
use Rattle.ir_machine.specs.BlockFunctions.{malloc_step, calloc_step, free_step, realloc_step}
use Rattle.ir_machine.specs.ByteFunctions.{copy_step, set_step, memcmp_step}
use Rattle.ir_machine.specs.TaskFunctions.{create_step, join_step, mutex_init_step, mutex_lock_step, mutex_unlock_step, mutex_destroy_step}
use Rattle.ir_machine.specs.TextFunctions.{strlen_step, puts_step, putchar_step, getchar_step, exit_step, abort_step}

-- A call at a site, with its result register, its arguments, the function that `pthread_create` starts, and what the input
-- gives next. The functions that are instructions of their own do nothing here.
abbrev pub library_step : MachineSetting → Input → MachineSeen → Site → Lib → Option ℕ → List MiOperand → Option ℕ → MachineOutcome
library_step setting given s site lib.Malloc to args start = malloc_step setting s site to (long_argument s args 0)
library_step setting given s site lib.Calloc to args start = calloc_step setting s site to (long_argument s args 0) (long_argument s args 1)
library_step setting given s site lib.Free to args start = free_step setting s site (pointer_argument s args 0)
library_step setting given s site lib.Realloc to args start = realloc_step setting s site to (pointer_argument s args 0) (long_argument s args 1)
library_step setting given s site lib.Memcpy to args start = copy_step s site to (pointer_argument s args 0) (pointer_argument s args 1) (long_argument s args 2)
library_step setting given s site lib.Memmove to args start = copy_step s site to (pointer_argument s args 0) (pointer_argument s args 1) (long_argument s args 2)
library_step setting given s site lib.Memset to args start = set_step s site to (pointer_argument s args 0) (int_argument s args 1) (long_argument s args 2)
library_step setting given s site lib.LlvmMemcpy to args start = copy_step s site None (pointer_argument s args 0) (pointer_argument s args 1) (long_argument s args 2)
library_step setting given s site lib.LlvmMemmove to args start = copy_step s site None (pointer_argument s args 0) (pointer_argument s args 1) (long_argument s args 2)
library_step setting given s site lib.LlvmMemset to args start = set_step s site None (pointer_argument s args 0) (int_argument s args 1) (long_argument s args 2)
library_step setting given s site lib.Memcmp to args start = memcmp_step s site to (pointer_argument s args 0) (pointer_argument s args 1) (long_argument s args 2)
library_step setting given s site lib.Strlen to args start = strlen_step s site to (pointer_argument s args 0)
library_step setting given s site lib.Puts to args start = puts_step s site to (pointer_argument s args 0)
library_step setting given s site lib.Putchar to args start = putchar_step s to (int_argument s args 0)
library_step setting given s site lib.Getchar to args start = getchar_step s to given
library_step setting given s site lib.Exit to args start = exit_step s (int_argument s args 0)
library_step setting given s site lib.Abort to args start = abort_step s site
library_step setting given s site lib.LlvmTrap to args start = abort_step s site
library_step setting given s site lib.PthreadCreate to args start = create_step setting s site to (pointer_argument s args 0) start (number_in s (argument_at args 2))
library_step setting given s site lib.PthreadJoin to args start = join_step s to (long_argument s args 0)
library_step setting given s site lib.MutexInit to args start = mutex_init_step s site to (pointer_argument s args 0)
library_step setting given s site lib.MutexLock to args start = mutex_lock_step s site to (pointer_argument s args 0)
library_step setting given s site lib.MutexUnlock to args start = mutex_unlock_step s site to (pointer_argument s args 0)
library_step setting given s site lib.MutexDestroy to args start = mutex_destroy_step s to
library_step setting given s site lib.LifetimeStart to args start = goes_on s
library_step setting given s site lib.LifetimeEnd to args start = goes_on s
library_step setting given s site lib.Assume to args start = goes_on s
library_step setting given s site (lib.Bits op width) to args start = goes_on s
library_step setting given s site (lib.Overflow op width) to args start = goes_on s
