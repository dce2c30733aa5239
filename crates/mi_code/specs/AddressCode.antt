-- The address computation of `getelementptr` in machine code: the steps that the source takes, on machine operands. This
-- project's choice.
use Rattle.std.specs.Prelude.{ℕ, List, [], map, Option, Some, None}
use Rattle.ir_core.specs.declared.operands.Placed.{Placed}
use Rattle.ir_core.specs.declared.ir_module.Module.{Module}
use Rattle.ir_core.specs.IndexSteps.{AddressStep, Scaled as ScaledIndex, Offset as FieldOffset, index_steps}
use Rattle.mi_code.specs.declared.operands.IndexStep.{IndexStep}
use Rattle.mi_code.specs.declared.operands.IndexStep.TheVariants.{Scaled, Offset}
use Rattle.mi_code.specs.MachineOperands.{operand_of}
use Rattle.mi_code.specs.Widths.{bits_at}

-- one step
abbrev pub step_code : Module → AddressStep → IndexStep
step_code m (ScaledIndex index size) = Scaled (operand_of index) (bits_at m index.ty) size
step_code m (FieldOffset off) = Offset off

-- all steps; an address into a type without parts has none, and no accepted instruction computes one
abbrev pub steps_code : Module → Option (List AddressStep) → List IndexStep
steps_code m None = []
steps_code m (Some steps) = map (step_code m) steps

-- the steps of all indices, by the number of the source type
abbrev pub indices_code : Module → ℕ → List Placed → List IndexStep
indices_code m ty indices = steps_code m (index_steps m ty indices)
