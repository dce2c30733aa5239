-- The functions on tasks and mutexes (POSIX, "pthread_create", "pthread_join" and "pthread_mutex_lock"). Tasks are numbered
-- from 0, which runs `main`, in order of start. A mutex is a word: 0, or the number of the task that holds it plus 1. How
-- many tasks can start, and the numbers of the errors, are this project's choice. Accesses to memory are taken before.
use Rattle.std.specs.Prelude.{ℕ, ◌+◌, ◌*◌, Bool, true, false, ◌==◌, nat_le, if◌then◌else◌, List, [], ◌∷◌, length, slice_get, Option, Some, None}
use Rattle.hw_base.specs.declared.numbers.TheConstants.{MOST_TASKS, MUTEX_SIZE, TASK_NUMBER_SIZE}
use Rattle.hw_base.specs.declared.pointers.Base.{Base}
use Rattle.hw_tags.specs.TaskRuns.{Starts, Stays}
use Rattle.ir_core.specs.declared.ir_module.Function.{Function}
use Rattle.ir_core.specs.declared.ir_module.Module.{Module}
use Rattle.ir_core.specs.declared.operands.StartArg.{StartArg}
use Rattle.ir_meaning.specs.Values.{Value, Integer}
use Rattle.ir_meaning.specs.Births.{bytes_at}
use Rattle.ir_meaning.specs.Encoding.{number_bytes, int_from}
use Rattle.ir_meaning.specs.State.{SourceSeen, SourceOutcome, telling}
use Rattle.ir_meaning.specs.Operands.{argument, with_named, with_value, with_integer, with_pointer}
use Rattle.ir_meaning.specs.StepEnds.{chain_of, advanced, assigned, gives, on_integer, stored}
use Rattle.ir_meaning.specs.CallSteps.{Entry, entry_of, entry_frame, on_arguments}

-- ---- tasks

-- the state of the task that starts another one: the new task's number is stored, and the result is 0
abbrev pub with_number : SourceSeen → Option ℕ → Base → (off : ℕ) → Entry → SourceSeen
with_number s result base off entry =
    advanced (assigned
    (stored (record s { shared = record s.shared { births = entry.births } }) base off (number_bytes TASK_NUMBER_SIZE (length s.finished)))
    result (Integer 0))

-- a task starts with a function's frame, which is entered by that task
abbrev pub starts_with : SourceSeen → Option ℕ → Base → (off : ℕ) → Function → (func : ℕ) → Value → Entry → SourceOutcome
starts_with s result base off f func value entry =
    Starts (with_number s result base off entry) (telling entry.news) (entry_frame f func (value ∷ []) entry.birth (chain_of s))

-- a task starts; if as many as can were started the result is 11
abbrev pub started : SourceSeen → Option ℕ → Base → (off : ℕ) → Function → (func : ℕ) → Value → SourceOutcome
started s result base off f func value =
    if nat_le MOST_TASKS (length s.finished)
    then gives s result (Integer 11)
    else starts_with s result base off f func value (entry_of s.shared.births func (length s.finished) (chain_of s) f.allocas)

-- `i32 pthread_create(ptr t, ptr null, ptr @f, ptr a)`; the function isn't among the arguments
unfoldable pub create_step : Module → SourceSeen → Option ℕ → List (Option Value) → Option StartArg → SourceOutcome
create_step program s result values start =
    with_named start (λ begin. with_named (slice_get program.functions begin.func) (λ f.
    with_pointer (argument values 0) (λ base off. with_value (argument values 2) (λ value.
    on_arguments f (value ∷ []) (started s result base off f begin.func value)))))

-- by whether the task is there and is finished
abbrev pub joined : SourceSeen → Option ℕ → Option Bool → SourceOutcome
joined s result None = gives s result (Integer 3)
joined s result (Some false) = Stays
joined s result (Some true) = gives s result (Integer 0)

-- `i32 pthread_join(i64 n, ptr null)`: the task waits for task n
unfoldable pub join_step : SourceSeen → Option ℕ → List (Option Value) → SourceOutcome
join_step s result values = with_integer 64 (argument values 0) (λ task. joined s result (slice_get s.finished task))

-- ---- mutexes

abbrev pub word_stored : SourceSeen → Base → (off word : ℕ) → SourceSeen
word_stored s base off word = stored s base off (number_bytes MUTEX_SIZE word)

-- `i32 pthread_mutex_init(ptr m, ptr)`: the word becomes 0
unfoldable pub mutex_init_step : SourceSeen → Option ℕ → List (Option Value) → SourceOutcome
mutex_init_step s result values = with_pointer (argument values 0) (λ base off. gives (word_stored s base off 0) result (Integer 0))

-- on with a mutex and its word
abbrev pub with_word : SourceSeen → List (Option Value) → (Base → ℕ → ℕ → SourceOutcome) → SourceOutcome
with_word s values go =
    with_pointer (argument values 0) (λ base off.
    on_integer s (int_from (8 * MUTEX_SIZE) (bytes_at s.shared.births base off MUTEX_SIZE)) (λ word. go base off word))

-- `i32 pthread_mutex_lock(ptr m)`: a free mutex is taken, and the task waits for a held one
unfoldable pub mutex_lock_step : SourceSeen → Option ℕ → List (Option Value) → SourceOutcome
mutex_lock_step s result values =
    with_word s values (λ base off word.
    if word == 0 then gives (word_stored s base off (s.task + 1)) result (Integer 0) else Stays)

-- `i32 pthread_mutex_unlock(ptr m)`: the task's own mutex becomes free, and for any other one the result is 1
unfoldable pub mutex_unlock_step : SourceSeen → Option ℕ → List (Option Value) → SourceOutcome
mutex_unlock_step s result values =
    with_word s values (λ base off word.
    if word == s.task + 1 then gives (word_stored s base off 0) result (Integer 0) else gives s result (Integer 1))

-- `i32 pthread_mutex_destroy(ptr m)`
unfoldable pub mutex_destroy_step : SourceSeen → Option ℕ → SourceOutcome
mutex_destroy_step s result = gives s result (Integer 0)
