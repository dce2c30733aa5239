-- The machine instruction of a source instruction (LLVM Language Reference, "Instruction Reference"), by cases
-- of the instruction. Operands are machine operands, types are their widths and sizes, and blocks are places in the code.
-- A phi has none: its moves are on the edges. An atomic exchange has the width of the new value.
use Rattle.std.specs.Prelude.{ℕ, List, Option, Some, None}
use Rattle.hw_base.specs.declared.operators.BinOp.{BinOp}
use Rattle.hw_base.specs.declared.operators.CastOp.{CastOp}
use Rattle.hw_base.specs.declared.operators.Pred.{Pred}
use Rattle.hw_base.specs.declared.operators.RmwOp.{RmwOp}
use Rattle.ir_core.specs.declared.operands.Case.{Case}
use Rattle.ir_core.specs.declared.operands.Placed.{Placed}
use Rattle.ir_core.specs.declared.operations.Op.{Op}
use Rattle.ir_core.specs.declared.operations.Op.TheVariants as source
use Rattle.ir_core.specs.declared.ir_module.Function.{Function}
use Rattle.ir_core.specs.declared.ir_module.Module.{Module}
use Rattle.mi_code.specs.declared.operands.MiOperand.{MiOperand}
use Rattle.mi_code.specs.declared.operations.MiOp.{MiOp}
use Rattle.mi_code.specs.declared.operations.MiOp.TheVariants as machine
use Rattle.mi_code.specs.EdgeMoves.{edge_to, case_edges}
use Rattle.mi_code.specs.AddressCode.{indices_code}
use Rattle.mi_code.specs.LibraryCode.{library_call}
use Rattle.mi_code.specs.MachineOperands.{operand_of, operands_of, call_result, result_register}
use Rattle.mi_code.specs.TagChecks.{lib_of}
use Rattle.mi_code.specs.Widths.{bits_at, width_of}

abbrev pub binary_code : Module → ℕ → BinOp → Placed → Placed → MiOp
binary_code m to op a b = machine.Binary op (bits_at m a.ty) to (operand_of a) (operand_of b)

abbrev pub icmp_code : Module → ℕ → Pred → Placed → Placed → MiOp
icmp_code m to pred a b = machine.Icmp pred (width_of m a.ty) to (operand_of a) (operand_of b)

abbrev pub cast_code : Module → ℕ → CastOp → Placed → ℕ → MiOp
cast_code m to op a ty = machine.Cast op (bits_at m a.ty) (bits_at m ty) to (operand_of a)

abbrev pub select_code : ℕ → Placed → Placed → Placed → MiOp
select_code to cond a b = machine.Select to (operand_of cond) (operand_of a) (operand_of b)

abbrev pub freeze_code : ℕ → Placed → MiOp
freeze_code to a = machine.Freeze to (operand_of a)

abbrev pub gep_code : Module → ℕ → ℕ → Placed → List Placed → MiOp
gep_code m to ty base indices = machine.Gep to (operand_of base) (indices_code m ty indices)

abbrev pub load_code : Module → ℕ → ℕ → Placed → MiOp
load_code m to ty at = machine.Load (width_of m ty) to (operand_of at)

abbrev pub store_code : Module → Placed → Placed → MiOp
store_code m value at = machine.Store (width_of m value.ty) (operand_of value) (operand_of at)

abbrev pub rmw_code : Module → ℕ → RmwOp → Placed → Placed → MiOp
rmw_code m to op at value = machine.Rmw op (bits_at m value.ty) to (operand_of at) (operand_of value)

abbrev pub cmpxchg_code : Module → ℕ → Placed → Placed → Placed → MiOp
cmpxchg_code m to at expected new =
    machine.CmpXchg (bits_at m new.ty) to (operand_of at) (operand_of expected) (operand_of new)

-- part 0 or 1; an accepted instruction names one of them
abbrev pub part_number : Option ℕ → ℕ
part_number None = 0
part_number (Some part) = part

-- the operand names the pair's first register for both parts
abbrev pub part_code : ℕ → Placed → Option ℕ → MiOp
part_code to pair part = machine.Part to (operand_of pair) (part_number part)

abbrev pub call_code : ℕ → Option ℕ → List Placed → MiOp
call_code func result args = machine.Call func (call_result result) (operands_of args)

abbrev pub jump_code : Function → List ℕ → (here block : ℕ) → MiOp
jump_code f starts here block = machine.Jump (edge_to f starts here block)

abbrev pub branch_code : Function → List ℕ → ℕ → Placed → ℕ → ℕ → MiOp
branch_code f starts here cond yes_block no_block =
    machine.Branch (operand_of cond) (edge_to f starts here yes_block) (edge_to f starts here no_block)

abbrev pub switch_code : Module → Function → List ℕ → ℕ → Placed → ℕ → List Case → MiOp
switch_code m f starts here on other cases =
    machine.Switch (bits_at m on.ty) (operand_of on) (edge_to f starts here other) (case_edges f starts here cases)

-- the returned value, if there is one
abbrev pub returned : Option Placed → Option MiOperand
returned None = None
returned (Some value) = Some (operand_of value)

-- an instruction in block `here`, by its result and what it does
abbrev pub source_code : Module → Function → List ℕ → ℕ → Option ℕ → Op → Option MiOp
source_code m f starts here r (source.Binary op a b) = Some (binary_code m (result_register f r) op a b)
source_code m f starts here r (source.Icmp pred a b) = Some (icmp_code m (result_register f r) pred a b)
source_code m f starts here r (source.Cast op a to) = Some (cast_code m (result_register f r) op a to)
source_code m f starts here r (source.Select cond a b) = Some (select_code (result_register f r) cond a b)
source_code m f starts here r (source.Freeze a) = Some (freeze_code (result_register f r) a)
source_code m f starts here r (source.Phi ty entries) = None
source_code m f starts here r (source.Alloca index ty count) = Some (machine.Alloca (result_register f r) index)
source_code m f starts here r (source.Load ty at align) = Some (load_code m (result_register f r) ty at)
source_code m f starts here r (source.Store value at align) = Some (store_code m value at)
source_code m f starts here r (source.Gep ty base indices) = Some (gep_code m (result_register f r) ty base indices)
source_code m f starts here r source.Fence = Some machine.Nop
source_code m f starts here r (source.Rmw op at value align) = Some (rmw_code m (result_register f r) op at value)
source_code m f starts here r (source.CmpXchg at expected new align) = Some (cmpxchg_code m (result_register f r) at expected new)
source_code m f starts here r (source.ExtractValue pair part) = Some (part_code (result_register f r) pair part)
source_code m f starts here r (source.Call func result args) = Some (call_code func r args)
source_code m f starts here r (source.CallLib declare result args start) = Some (library_call f (lib_of m declare) r args start)
source_code m f starts here r (source.Br block) = Some (jump_code f starts here block)
source_code m f starts here r (source.BrIf cond first second) = Some (branch_code f starts here cond first second)
source_code m f starts here r (source.Switch on other cases) = Some (switch_code m f starts here on other cases)
source_code m f starts here r (source.Ret value) = Some (machine.Ret (returned value))
source_code m f starts here r source.Unreachable = Some machine.Unreachable
