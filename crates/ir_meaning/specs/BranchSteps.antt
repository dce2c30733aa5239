-- The steps that go to another instruction of the function (LLVM Language Reference, "Terminator Instructions" and "'phi'
-- Instruction").
use Rattle.std.specs.Prelude.{ℕ, ◌==◌, if◌then◌else◌, List, [], ◌∷◌, slice_get, Option, Some, None, option_and_then}
use Rattle.hw_base.specs.Bits.{is_set}
use Rattle.hw_base.specs.declared.endings.Trap.TheVariants.{Unreachable}
use Rattle.hw_tags.specs.TaskRuns.{Goes}
use Rattle.ir_core.specs.declared.operands.Case.{Case}
use Rattle.ir_core.specs.declared.operations.Op.{Op}
use Rattle.ir_core.specs.declared.ir_module.Function.{Function}
use Rattle.ir_core.specs.declared.ir_module.Inst.{Inst}
use Rattle.ir_core.specs.declared.ir_module.Module.{Module}
use Rattle.ir_core.specs.Blocks.{block_holding, phis_of, start_of, phi_entry}
use Rattle.ir_core.specs.NumberTypes.{constant_number}
use Rattle.ir_meaning.specs.Values.{Value}
use Rattle.ir_meaning.specs.State.{SourceFrame, SourceSeen, SourceOutcome, nothing_happened}
use Rattle.ir_meaning.specs.Operands.{operand_value, single, with_named, with_integer}
use Rattle.ir_meaning.specs.StepEnds.{with_result, traps}

-- ---- edges

-- the value that a phi takes on an edge from a block, by the registers before the edge
abbrev pub phi_value : Module → List (Option Value) → (from : ℕ) → Op → Option Value
phi_value program registers from op =
    option_and_then single (option_and_then (operand_value program registers) (phi_entry from op))

-- one more register and its value, if the others have theirs
abbrev pub value_before : Option ℕ → Option Value → Option (List (Option ℕ × Value)) → Option (List (Option ℕ × Value))
value_before result (Some value) (Some values) = Some ((result, value) ∷ values)
value_before result value values = None

-- all phis are read on the edge at once: their registers and values
unfoldable pub phi_values : Module → List (Option Value) → (from : ℕ) → List Inst → Option (List (Option ℕ × Value))
phi_values program registers from [] = Some []
phi_values program registers from (phi ∷ phis) =
    value_before phi.result (phi_value program registers from phi.op) (phi_values program registers from phis)

-- registers with these values, one after the other
unfoldable pub with_results : List (Option Value) → List (Option ℕ × Value) → List (Option Value)
with_results registers [] = registers
with_results registers (given ∷ values) = with_results (with_result registers given.0 given.1) values

-- a frame at another instruction, with other registers
abbrev pub moved_to : SourceFrame → List (Option Value) → (inst : ℕ) → SourceFrame
moved_to frame registers inst = record frame { registers = registers; inst = inst }

-- to a block, from the one that holds the instruction
abbrev pub goes_to : Module → Function → SourceSeen → (target : ℕ) → SourceOutcome
goes_to program f s target =
    with_named (slice_get f.blocks target) (λ block.
    with_named (phi_values program s.frame.registers (block_holding f.blocks s.frame.inst) (phis_of f.insts block)) (λ values.
    Goes (record s { frame = moved_to s.frame (with_results s.frame.registers values) (start_of block) }) nothing_happened))

-- ---- branches

-- `br` with one label
unfoldable pub br_step : Module → Function → SourceSeen → (target : ℕ) → SourceOutcome
br_step program f s target = goes_to program f s target

-- `br` with a condition
unfoldable pub br_if_step : Module → Function → SourceSeen → Option Value → (at_one at_zero : ℕ) → SourceOutcome
br_if_step program f s cond at_one at_zero =
    with_integer 1 cond (λ c. goes_to program f s (if is_set c then at_one else at_zero))

-- the block of the case with this number, else the other one
unfoldable pub switch_target : (n other : ℕ) → List Case → ℕ
switch_target n other [] = other
switch_target n other (case ∷ cases) =
    if constant_number case.value.operand == n then case.block else switch_target n other cases

unfoldable pub switch_step : Module → Function → SourceSeen → (width : ℕ) → Option Value → (other : ℕ) → List Case → SourceOutcome
switch_step program f s width on other cases =
    with_integer width on (λ n. goes_to program f s (switch_target n other cases))

-- `unreachable`
unfoldable pub unreachable_step : SourceSeen → SourceOutcome
unreachable_step s = traps s Unreachable
