-- Registers whose machine registers are numbers of 32 bits: a function has fewer than 2^30 registers.
use Rattle.std.specs.Prelude.{◌<◌, ◌^◌, All, IfSome}
use Rattle.ir_core.specs.declared.operands.Operand.{Operand}
use Rattle.ir_core.specs.declared.operands.Operand.TheVariants.{Reg}
use Rattle.ir_core.specs.declared.operands.Placed.{Placed}
use Rattle.ir_core.specs.declared.operands.PhiEntry.{PhiEntry}
use Rattle.ir_core.specs.declared.operations.Op.{Op}
use Rattle.ir_core.specs.declared.operations.Op.TheVariants as op
use Rattle.ir_core.specs.declared.ir_module.Inst.{Inst}

abbrev pub IsSmallOperand : Operand → Type 0
IsSmallOperand (Reg r) = r < 2 ^ 30
IsSmallOperand other = Unit {0}

abbrev pub IsSmall : Placed → Type 0
IsSmall placed = IsSmallOperand placed.operand

abbrev pub IsSmallEntry : PhiEntry → Type 0
IsSmallEntry entry = IsSmall entry.value

abbrev pub IsSmallOp : Op → Type 0
IsSmallOp (op.Binary kind a b) = IsSmall a × IsSmall b
IsSmallOp (op.Icmp pred a b) = IsSmall a × IsSmall b
IsSmallOp (op.Cast kind a to) = IsSmall a
IsSmallOp (op.Select cond a b) = IsSmall cond × IsSmall a × IsSmall b
IsSmallOp (op.Freeze a) = IsSmall a
IsSmallOp (op.Phi ty entries) = All IsSmallEntry entries
IsSmallOp (op.Alloca index ty count) = Unit {0}
IsSmallOp (op.Load ty at align) = IsSmall at
IsSmallOp (op.Store value at align) = IsSmall value × IsSmall at
IsSmallOp (op.Gep ty base indices) = IsSmall base × All IsSmall indices
IsSmallOp op.Fence = Unit {0}
IsSmallOp (op.Rmw kind at value align) = IsSmall at × IsSmall value
IsSmallOp (op.CmpXchg at expected new align) = IsSmall at × IsSmall expected × IsSmall new
IsSmallOp (op.ExtractValue pair part) = IsSmall pair
IsSmallOp (op.Call func result args) = All IsSmall args
IsSmallOp (op.CallLib declare result args start) = All IsSmall args
IsSmallOp (op.Br block) = Unit {0}
IsSmallOp (op.BrIf cond yes_block no_block) = IsSmall cond
IsSmallOp (op.Switch on other cases) = IsSmall on
IsSmallOp (op.Ret value) = IfSome value IsSmall
IsSmallOp op.Unreachable = Unit {0}

pub record IsSmallInst (inst : Inst) : Type 0 where
  pub op : IsSmallOp inst.op
  pub result : IfSome inst.result (λ r. r < 2 ^ 30)
