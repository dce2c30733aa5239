-- The frames of a task: a task is a list of frames, newest first. A frame's registers are numbers; a register past the end
-- reads 0, and a write to it changes nothing. This project's choice.
use Rattle.std.specs.Prelude.{ℕ, ◌+◌, List, slice_set, slice_index}

-- an activation of a function: its number, its registers, the place of its next instruction in the function's code, and the
-- number of the chain of sites of the call
pub record Frame : Type 0 where
  pub func : ℕ
  pub registers : List ℕ
  pub place : ℕ
  pub chain : ℕ

-- the number in a register
abbrev pub register : Frame → ℕ → ℕ
register frame r = slice_index frame.registers r

-- a frame with a number in a register
abbrev pub with_register : Frame → (r number : ℕ) → Frame
with_register frame r number = record frame { registers = slice_set frame.registers r number }

-- a frame at a place
abbrev pub at_place : Frame → ℕ → Frame
at_place frame place = record frame { place = place }

-- a frame at the next place
abbrev pub advanced : Frame → Frame
advanced frame = at_place frame (frame.place + 1)
