-- The types whose values are numbers, and what a run reads from the types of a module (LLVM Language Reference, "Type
-- System" and "Data Layout"). Sizes are in bytes. A number past the end of a list names a type of no use: `void`.
use Rattle.std.specs.Prelude.{ℕ, ◌+◌, Bool, map, slice_index}
use Rattle.ir_core.specs.declared.types.IrType.{IrType}
use Rattle.ir_core.specs.declared.types.IrType.TheVariants.{Void, Int, Ptr, Array, Struct, Opaque, Pair}
use Rattle.ir_core.specs.declared.operands.Operand.{Operand}
use Rattle.ir_core.specs.declared.operands.Operand.TheVariants.{Reg, Int as Literal, Null, Global}
use Rattle.ir_core.specs.declared.ir_module.Module.{Module}
use Rattle.ir_core.specs.Layout.{int_store_size, layout_at, layout_size, offset_in, field_types}
use Rattle.ir_core.specs.Progress.{type_at}

-- the type with a number, in a module
abbrev pub type_of : Module → ℕ → IrType
type_of m ty = type_at m.types ty

-- the bits of a type's numbers: those of an integer, and 64 of a pointer
abbrev pub bits_of : IrType → ℕ
bits_of Void = 0
bits_of (Int width) = width
bits_of Ptr = 64
bits_of (Array count item) = 0
bits_of (Struct first count packed) = 0
bits_of Opaque = 0
bits_of (Pair width) = 0

-- the bytes that a load or store of a type touches: its bits in whole bytes
abbrev pub access_size : IrType → ℕ
access_size type = int_store_size (bits_of type)

-- the bytes from one item of a type to the next, as the module keeps them
abbrev pub alloc_size : Module → ℕ → ℕ
alloc_size m ty = layout_size (layout_at m.layouts ty)

-- the type of field k of a struct whose fields begin at `first` in the module's list
abbrev pub field_type : Module → (first k : ℕ) → ℕ
field_type m first k = slice_index m.fields (first + k)

-- the byte at which field k of a struct begins
abbrev pub field_offset : Module → (first count : ℕ) → Bool → (k : ℕ) → ℕ
field_offset m first count packed k = offset_in packed (map (layout_at m.layouts) (field_types m.fields first count)) k

-- the number that a constant operand is; any other counts as 0
abbrev pub constant_number : Operand → ℕ
constant_number (Reg r) = 0
constant_number (Literal n) = n
constant_number Null = 0
constant_number (Global index off) = 0
