-- One step of a task of the source program: one instruction (LLVM Language Reference, "Instruction Reference"), one line a
-- kind. Each step has a definition of its own.
use Rattle.std.specs.Prelude.{ℕ, List, slice_get, Option}
use Rattle.hw_base.specs.declared.endings.Input.{Input}
use Rattle.hw_tags.specs.TaskRuns.{Stuck}
use Rattle.ir_core.specs.declared.ir_module.Function.{Function}
use Rattle.ir_core.specs.declared.ir_module.Module.{Module}
use Rattle.ir_core.specs.declared.operands.Placed.{Placed}
use Rattle.ir_core.specs.declared.operations.Op.{Op}
use Rattle.ir_core.specs.declared.operations.Op.TheVariants as op
use Rattle.ir_core.specs.NumberTypes.{type_of, bits_of}
use Rattle.ir_meaning.specs.Values.{Value}
use Rattle.ir_meaning.specs.State.{SourceSeen, SourceOutcome}
use Rattle.ir_meaning.specs.Operands.{operand_value, operand_values, optional_value, with_named}
use Rattle.ir_meaning.specs.ArithmeticSteps.{binary_step, icmp_step, cast_step, select_step, freeze_step, extract_step}
use Rattle.ir_meaning.specs.AddressSteps.{alloca_step, gep_step}
use Rattle.ir_meaning.specs.MemorySteps.{load_step, store_step, rmw_step, cmpxchg_step}
use Rattle.ir_meaning.specs.BranchSteps.{br_step, br_if_step, switch_step, unreachable_step}
use Rattle.ir_meaning.specs.CallSteps.{call_step, ret_step}
use Rattle.ir_meaning.specs.LibraryCalls.{nothing_step, library_step}

-- the value of an operand in the frame that runs
abbrev pub value_of : Module → SourceSeen → Placed → Option Value
value_of program s operand = operand_value program s.frame.registers operand

abbrev pub values_of : Module → SourceSeen → List Placed → List (Option Value)
values_of program s operands = operand_values program s.frame.registers operands

-- the bits of the type with a number
abbrev pub width_at : Module → (ty : ℕ) → ℕ
width_at program ty = bits_of (type_of program ty)

-- an instruction of a function. A phi makes no step: it is read on the edge that leads to its block
abbrev pub operation_step : Module → Input → Function → SourceSeen → Option ℕ → Op → SourceOutcome
operation_step program next f s result (op.Binary kind a b) =
    binary_step s result kind (width_at program a.ty) (value_of program s a) (value_of program s b)
operation_step program next f s result (op.Icmp pred a b) =
    icmp_step s result pred (type_of program a.ty) (value_of program s a) (value_of program s b)
operation_step program next f s result (op.Cast kind a to) =
    cast_step s result kind (width_at program a.ty) (width_at program to) (value_of program s a)
operation_step program next f s result (op.Select cond a b) =
    select_step s result (value_of program s cond) (value_of program s a) (value_of program s b)
operation_step program next f s result (op.Freeze a) = freeze_step s result (value_of program s a)
operation_step program next f s result (op.Phi ty entries) = Stuck
operation_step program next f s result (op.Alloca index ty count) = alloca_step s result index
operation_step program next f s result (op.Load ty at align) = load_step s result (type_of program ty) align (value_of program s at)
operation_step program next f s result (op.Store value at align) =
    store_step s (type_of program value.ty) align (value_of program s value) (value_of program s at)
operation_step program next f s result (op.Gep ty base indices) = gep_step program s result ty (value_of program s base) indices
operation_step program next f s result op.Fence = nothing_step s
operation_step program next f s result (op.Rmw kind at value align) =
    rmw_step s result kind (type_of program value.ty) align (value_of program s at) (value_of program s value)
operation_step program next f s result (op.CmpXchg at expected new align) =
    cmpxchg_step s result (type_of program new.ty) align (value_of program s at) (value_of program s expected) (value_of program s new)
operation_step program next f s result (op.ExtractValue pair part) = extract_step s result part (value_of program s pair)
operation_step program next f s result (op.Call func ty args) = call_step program s func (values_of program s args)
operation_step program next f s result (op.CallLib declare ty args start) =
    with_named (slice_get program.declares declare) (λ d. library_step program next s result args (values_of program s args) start d.lib)
operation_step program next f s result (op.Br block) = br_step program f s block
operation_step program next f s result (op.BrIf cond at_one at_zero) = br_if_step program f s (value_of program s cond) at_one at_zero
operation_step program next f s result (op.Switch on other cases) =
    switch_step program f s (width_at program on.ty) (value_of program s on) other cases
operation_step program next f s result (op.Ret value) = ret_step program s (optional_value program s.frame.registers value)
operation_step program next f s result op.Unreachable = unreachable_step s

-- One step of a task, for what the next read of the input gives: the instruction at which its newest frame is.
abbrev pub source_step : Module → Input → SourceSeen → SourceOutcome
source_step program next s =
    with_named (slice_get program.functions s.frame.func) (λ f.
    with_named (slice_get f.insts s.frame.inst) (λ i. operation_step program next f s i.result i.op))
