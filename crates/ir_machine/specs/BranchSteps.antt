-- The steps that go to another block (LLVM Language Reference, "Terminator Instructions" and "'phi' Instruction"). All phis
-- of an edge are read before one is set. A condition counts by its lowest bit.
use Rattle.std.specs.Prelude.{ℕ, ◌==◌, if◌then◌else◌, List, [], ◌∷◌, map}
use Rattle.hw_base.specs.Bits.{is_set}
use Rattle.hw_base.specs.declared.endings.Trap.TheVariants.{Unreachable}
use Rattle.hw_base.specs.declared.pointers.Site.{Site}
use Rattle.hw_tags.specs.TaskRuns.{Goes}
use Rattle.mi_code.specs.declared.edges.Edge.{Edge}
use Rattle.mi_code.specs.declared.edges.MiCase.{MiCase}
use Rattle.mi_code.specs.declared.edges.Move.{Move}
use Rattle.mi_code.specs.declared.operands.MiOperand.{MiOperand}
use Rattle.ir_tasks.specs.Frames.{Frame, with_register, at_place}
use Rattle.ir_machine.specs.State.{MachineSeen, MachineOutcome}
use Rattle.ir_machine.specs.Operands.{number_in, integer_in}
use Rattle.ir_machine.specs.StepEnds.{traps}

-- a move's register and the number that it gets
abbrev pub move_number : MachineSeen → Move → ℕ × ℕ
move_number s move = (move.to, number_in s move.value)

-- a frame with numbers in registers, set one after the other
unfoldable pub with_registers : Frame → List (ℕ × ℕ) → Frame
with_registers frame [] = frame
with_registers frame (move ∷ moves) = with_registers (with_register frame move.0 move.1) moves

-- the frame goes along an edge
abbrev pub along : MachineSeen → Edge → MachineSeen
along s edge = record s { frame = at_place (with_registers s.frame (map (move_number s) edge.moves)) edge.place }

unfoldable pub br_step : MachineSeen → Edge → MachineOutcome
br_step s edge = Goes (along s edge) []

unfoldable pub br_if_step : MachineSeen → MiOperand → (first second : Edge) → MachineOutcome
br_if_step s cond first second = Goes (along s (if is_set (number_in s cond) then first else second)) []

-- the edge of the first case with a number, or the other one
unfoldable pub case_for : ℕ → Edge → List MiCase → Edge
case_for n other [] = other
case_for n other (case ∷ cases) = if case.value == n then case.edge else case_for n other cases

unfoldable pub switch_step : MachineSeen → (width : ℕ) → MiOperand → Edge → List MiCase → MachineOutcome
switch_step s width on other cases = Goes (along s (case_for (integer_in s width on) other cases)) []

unfoldable pub unreachable_step : MachineSeen → Site → MachineOutcome
unreachable_step s site = traps s site Unreachable
