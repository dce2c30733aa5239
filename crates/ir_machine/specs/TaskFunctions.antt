-- The library functions on tasks and mutexes (POSIX, `pthread_create`, `pthread_join`, `pthread_mutex_lock`). A task's number
-- counts from 0 in order of start. A mutex is a word: 0 if it is free, else the number of its task plus 1. The numbers, the
-- word and the results are this project's choice.
use Rattle.std.specs.Prelude.{ℕ, ◌+◌, ◌==◌, nat_lt, if◌then◌else◌, Bool, true, false, [], ◌∷◌, length, slice_get, Option, Some, None, Result, Ok, Err}
use Rattle.hw_base.specs.Bytes.{le_bytes, le_number}
use Rattle.hw_base.specs.declared.accesses.Access.TheVariants.{Write}
use Rattle.hw_base.specs.declared.endings.Full.{Full}
use Rattle.hw_base.specs.declared.numbers.TheConstants.{TASK_NUMBER_SIZE, MUTEX_SIZE}
use Rattle.hw_base.specs.declared.pointers.Site.{Site}
use Rattle.hw_tags.specs.TaskRuns.{Stays, Starts, Stuck}
use Rattle.stack_tags.specs.Frames as stacks
use Rattle.tag_alloc.specs.HeapBlocks as blocks
use Rattle.ir_machine.specs.State.{MachineSetting, MachineShared, MachineSeen, MachineOutcome, IsFull}
use Rattle.ir_machine.specs.StepEnds.{advanced, with_result, gives_to, ends, chain_at, chain_known, with_read, with_write, with_writable}
use Rattle.ir_machine.specs.CallSteps.{AfterEntry, entry_of, frame_for}

-- ---- tasks

-- one more task has a stack, and has freed nothing
abbrev pub with_task : MachineShared → MachineShared
with_task shared = record shared { heap = blocks.with_task shared.heap; stacks = stacks.with_task shared.stacks }

-- the task's number is written last, and then it starts
abbrev pub on_start : MachineSetting → MachineSeen → Site → Option ℕ → (at func argument chain : ℕ) → Result AfterEntry Full → MachineOutcome
on_start setting s site to at func argument chain (Err full) = ends s (IsFull full)
on_start setting s site to at func argument chain (Ok after) =
    with_write (record s { shared = after.shared }) site at (le_bytes TASK_NUMBER_SIZE (length s.finished)) (λ s'.
    Starts (advanced (with_result s' to 0)) [] (frame_for setting.code func after.place (argument ∷ []) chain))

-- a task starts a function with one argument: its entry comes first
abbrev pub started : MachineSetting → MachineSeen → Site → Option ℕ → (at func argument chain : ℕ) → MachineOutcome
started setting s site to at func argument chain =
    on_start setting s site to at func argument chain (entry_of setting (length s.finished) func chain (with_task s.shared))

-- a start, or the result 11 if as many tasks were started as there can be
abbrev pub started_if : Bool → MachineSetting → MachineSeen → Site → Option ℕ → (at func argument : ℕ) → MachineOutcome
started_if true setting s site to at func argument = started setting (chain_known s site) site to at func argument (chain_at s site)
started_if false setting s site to at func argument = gives_to s to 11

-- `pthread_create`: the number's bytes are refused first, also if nothing starts. An accepted call names a function
unfoldable pub create_step : MachineSetting → MachineSeen → Site → Option ℕ → (at : ℕ) → Option ℕ → (argument : ℕ) → MachineOutcome
create_step setting s site to at None argument = Stuck
create_step setting s site to at (Some func) argument =
    with_writable s site TASK_NUMBER_SIZE at
    (started_if (nat_lt (length s.finished) setting.places.most_tasks) setting s site to at func argument)

-- `pthread_join`: 3 if no such task was started; the task stays while that one is unfinished
abbrev pub joined : MachineSeen → Option ℕ → Option Bool → MachineOutcome
joined s to None = gives_to s to 3
joined s to (Some false) = Stays
joined s to (Some true) = gives_to s to 0

unfoldable pub join_step : MachineSeen → Option ℕ → (task : ℕ) → MachineOutcome
join_step s to task = joined s to (slice_get s.finished task)

-- ---- mutexes

-- the word becomes a number, and the result is 0
abbrev pub word_written : MachineSeen → Site → Option ℕ → (at word : ℕ) → MachineOutcome
word_written s site to at word = with_write s site at (le_bytes MUTEX_SIZE word) (λ after. gives_to after to 0)

-- `pthread_mutex_init`: the word becomes 0
unfoldable pub mutex_init_step : MachineSeen → Site → Option ℕ → (at : ℕ) → MachineOutcome
mutex_init_step s site to at = word_written s site to at 0

-- go on with a mutex's word
abbrev pub with_word : MachineSeen → Site → (at : ℕ) → (ℕ → MachineOutcome) → MachineOutcome
with_word s site at go =
    with_writable s site MUTEX_SIZE at (with_read s site Write MUTEX_SIZE at (λ bytes. go (le_number bytes)))

-- a free mutex is taken, and the task stays at a held one
unfoldable pub mutex_lock_step : MachineSeen → Site → Option ℕ → (at : ℕ) → MachineOutcome
mutex_lock_step s site to at =
    with_word s site at (λ word. if word == 0 then word_written s site to at (s.task + 1) else Stays)

-- the task's own mutex becomes free; for any other the result is 1
unfoldable pub mutex_unlock_step : MachineSeen → Site → Option ℕ → (at : ℕ) → MachineOutcome
mutex_unlock_step s site to at =
    with_word s site at (λ word. if word == s.task + 1 then word_written s site to at 0 else gives_to s to 1)

abbrev pub mutex_destroy_step : MachineSeen → Option ℕ → MachineOutcome
mutex_destroy_step s to = gives_to s to 0
