-- The steps that compute addresses (LLVM Language Reference, "'alloca' Instruction" and "'getelementptr' Instruction"). An
-- address is a number modulo 2 ^ 64.
use Rattle.std.specs.Prelude.{ℕ, ◌+◌, ◌*◌, ◌%◌, ◌^◌, List, [], ◌∷◌}
use Rattle.ir_arith.specs.TwosComplement.{signed_of, unsigned_of}
use Rattle.mi_code.specs.declared.operands.IndexStep.{IndexStep}
use Rattle.mi_code.specs.declared.operands.IndexStep.TheVariants.{Scaled, Offset}
use Rattle.mi_code.specs.declared.operands.MiOperand.{MiOperand}
use Rattle.stack_tags.specs.Frames.{variable_number}
use Rattle.ir_machine.specs.State.{MachineSeen, MachineOutcome}
use Rattle.ir_machine.specs.Operands.{integer_in, pointer_in}
use Rattle.ir_machine.specs.StepEnds.{gives}

-- the pointer to a variable of the newest frame
unfoldable pub alloca_step : MachineSeen → (to variable : ℕ) → MachineOutcome
alloca_step s to variable = gives s to (variable_number s.shared.stacks s.task variable)

-- what an index adds: its value with its sign, in 64 bits, times the size
abbrev pub step_bytes : MachineSeen → IndexStep → ℕ
step_bytes s (Scaled value width size) = unsigned_of 64 (signed_of width (integer_in s width value)) * size
step_bytes s (Offset off) = off

-- an address after all steps, modulo 2 ^ 64
unfoldable pub stepped_address : MachineSeen → (at : ℕ) → List IndexStep → ℕ
stepped_address s at [] = at
stepped_address s at (step ∷ steps) = stepped_address s ((at + step_bytes s step) % 2 ^ 64) steps

unfoldable pub gep_step : MachineSeen → (to : ℕ) → MiOperand → List IndexStep → MachineOutcome
gep_step s to base indices = gives s to (stepped_address s (pointer_in s base) indices)
