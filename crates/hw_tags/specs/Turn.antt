-- Which task makes the next step. Whether each task is finished is listed in order of start, and the unfinished tasks by
-- their numbers. This project's choice.
use Rattle.std.specs.Prelude.{ℕ, ◌+◌, ◌%◌, Bool, true, false, List, [], ◌∷◌, length, slice_index, nat_lt, if◌then◌else◌}

-- the numbers of the unfinished tasks, in order of start, of the tasks from a number on
unfoldable pub unfinished_from : (from : ℕ) (finished : List Bool) → List ℕ
unfinished_from k [] = []
unfinished_from k (true ∷ finished) = unfinished_from (k + 1) finished
unfinished_from k (false ∷ finished) = k ∷ unfinished_from (k + 1) finished

abbrev pub unfinished_of : List Bool → List ℕ
unfinished_of finished = unfinished_from 0 finished

-- the task that the turn word x chooses: counted from 0, the place is what x leaves when divided by their number
abbrev pub chosen_task : List ℕ → ℕ → ℕ
chosen_task unfinished x = slice_index unfinished (x % length unfinished)

-- how many turn words the choice draws: one, but none if only one task is unfinished
abbrev pub turn_words : List ℕ → ℕ
turn_words unfinished = if nat_lt 1 (length unfinished) then 1 else 0
