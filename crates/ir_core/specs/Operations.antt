-- What kind of instruction an operation is, and the type of the value that it gives (LLVM Language Reference, "Instruction
-- Reference" and "Terminator Instructions").
use Rattle.std.specs.Prelude.{ℕ, zero, suc, Bool, true, false, Option, Some}
use Rattle.ir_core.specs.declared.types.IrType.{IrType}
use Rattle.ir_core.specs.declared.types.IrType.TheVariants.{Void, Int, Ptr, Array, Struct, Opaque, Pair}
use Rattle.ir_core.specs.declared.operations.Op.{Op}
use Rattle.ir_core.specs.declared.operations.Op.TheVariants as op
use Rattle.ir_core.specs.declared.ir_module.Module.{Module}
use Rattle.ir_core.specs.NumberTypes.{type_of}

-- the last instruction of a block is a terminator, and no other one is
abbrev pub is_terminator : Op → Bool
is_terminator (op.Br block) = true
is_terminator (op.BrIf cond yes_block no_block) = true
is_terminator (op.Switch on other cases) = true
is_terminator (op.Ret value) = true
is_terminator op.Unreachable = true
is_terminator other = false

abbrev pub is_phi : Op → Bool
is_phi (op.Phi ty entries) = true
is_phi other = false

-- a number, a pointer, or a pair of a number and a bit: what a register can hold
abbrev pub is_value_type : IrType → Bool
is_value_type Void = false
is_value_type (Int width) = true
is_value_type Ptr = true
is_value_type (Array count item) = false
is_value_type (Struct first count packed) = false
is_value_type Opaque = false
is_value_type (Pair width) = true

-- an integer or a pointer: what memory is read and written as
abbrev pub is_number_type : IrType → Bool
is_number_type Void = false
is_number_type (Int width) = true
is_number_type Ptr = true
is_number_type (Array count item) = false
is_number_type (Struct first count packed) = false
is_number_type Opaque = false
is_number_type (Pair width) = false

-- `cmpxchg` gives the old value and a bit
abbrev pub pair_of : IrType → IrType
pair_of (Int width) = Pair width
pair_of other = Void

-- `extractvalue` gives the number of a pair, or its bit
abbrev pub part_of : Option ℕ → IrType → IrType
part_of (Some zero) (Pair width) = Int width
part_of (Some (suc part)) (Pair width) = Int 1
part_of part other = Void

-- the type of the value that an instruction gives, and `void` if it gives none
abbrev pub given_type : Module → Op → IrType
given_type m (op.Binary kind a b) = type_of m a.ty
given_type m (op.Icmp pred a b) = Int 1
given_type m (op.Cast kind a to) = type_of m to
given_type m (op.Select cond a b) = type_of m a.ty
given_type m (op.Freeze a) = type_of m a.ty
given_type m (op.Phi ty entries) = type_of m ty
given_type m (op.Alloca index ty count) = Ptr
given_type m (op.Load ty at align) = type_of m ty
given_type m (op.Store value at align) = Void
given_type m (op.Gep ty base indices) = Ptr
given_type m op.Fence = Void
given_type m (op.Rmw kind at value align) = type_of m value.ty
given_type m (op.CmpXchg at expected new align) = pair_of (type_of m new.ty)
given_type m (op.ExtractValue pair part) = part_of part (type_of m pair.ty)
given_type m (op.Call func result args) = type_of m result
given_type m (op.CallLib declare result args start) = type_of m result
given_type m (op.Br block) = Void
given_type m (op.BrIf cond yes_block no_block) = Void
given_type m (op.Switch on other cases) = Void
given_type m (op.Ret value) = Void
given_type m op.Unreachable = Void
