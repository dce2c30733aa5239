-- How much of the input a run has taken. After its end was met no further byte is asked for. This project's choice.
use Rattle.std.specs.Prelude.{ℕ, Bool, true, false, List, slice_get, Option, Some, None}
use Rattle.hw_base.specs.declared.endings.Input.{Input}
use Rattle.hw_base.specs.declared.endings.Input.TheVariants.{Byte, End}

-- how many bytes were taken, and whether the end was met
pub record InputState : Type 0 where
  pub taken : ℕ
  pub at_end : Bool

abbrev pub no_input_taken : InputState
no_input_taken = record { taken = 0; at_end = false }

abbrev pub input_by : Option ℕ → Input
input_by None = End
input_by (Some byte) = Byte byte

-- what the next read of the input gives
abbrev pub next_input : List ℕ → InputState → Input
next_input bytes state = input_by (slice_get bytes state.taken)
