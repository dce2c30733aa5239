-- The types that operands have and are asked for (LLVM Language Reference, "Type System", "Instruction Reference").
use Rattle.std.specs.Prelude.{Bool, true, false, ◌&&◌, ◌==◌, slice_index, Option}
use Rattle.ir_core.specs.declared.types.IrType.{IrType}
use Rattle.ir_core.specs.declared.types.IrType.TheVariants.{Void, Int, Ptr, Array, Struct, Opaque, Pair}
use Rattle.ir_core.specs.declared.operands.Operand.{Operand}
use Rattle.ir_core.specs.declared.operands.Operand.TheVariants.{Reg, Int as Literal, Null, Global}
use Rattle.ir_core.specs.declared.operands.Placed.{Placed}
use Rattle.ir_core.specs.declared.faults.Fault.TheVariants.{BadType}
use Rattle.ir_core.specs.declared.refusals.Refusal.{Refusal}
use Rattle.ir_core.specs.declared.ir_module.Function.{Function}
use Rattle.ir_core.specs.declared.ir_module.Module.{Module}
use Rattle.ir_core.specs.NumberTypes.{type_of}
use Rattle.ir_core.specs.Operations.{is_number_type}
use Rattle.ir_check_types.specs.Order.{unless}

abbrev pub is_integer : IrType → Bool
is_integer Void = false
is_integer (Int width) = true
is_integer Ptr = false
is_integer (Array count item) = false
is_integer (Struct first count packed) = false
is_integer Opaque = false
is_integer (Pair width) = false

-- two types of values are one; types of no value are one with none
abbrev pub is_same : IrType → IrType → Bool
is_same Void Void = true
is_same (Int width) (Int other) = width == other
is_same Ptr Ptr = true
is_same (Pair width) (Pair other) = width == other
is_same type other = false

-- an operand is of its spelled type: a register has it, or a constant is one of its values, which an address is only of a pointer's
abbrev pub has_its_type : Module → Function → Placed → Operand → Bool
has_its_type m f placed (Reg r) = is_same (type_of m (slice_index f.regs r)) (type_of m placed.ty)
has_its_type m f placed (Literal n) = placed.fits
has_its_type m f placed Null = placed.fits
has_its_type m f placed (Global global off) = placed.fits && is_same (type_of m placed.ty) Ptr

abbrev pub is_typed : Module → Function → Placed → Bool
is_typed m f placed = has_its_type m f placed placed.operand

-- an operand that is an integer or a pointer
abbrev pub number_fault : Module → Function → Placed → Option Refusal
number_fault m f placed = unless (is_number_type (type_of m placed.ty) && is_typed m f placed) BadType placed.place

-- an operand that is an integer
abbrev pub integer_fault : Module → Function → Placed → Option Refusal
integer_fault m f placed = unless (is_integer (type_of m placed.ty) && is_typed m f placed) BadType placed.place

-- an operand of this type, an integer or a pointer
abbrev pub typed_fault : Module → Function → IrType → Placed → Option Refusal
typed_fault m f type placed =
    unless (is_number_type type && (is_same (type_of m placed.ty) type && is_typed m f placed)) BadType placed.place
