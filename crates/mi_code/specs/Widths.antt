-- How wide the numbers of a module's types are in its code.
use Rattle.std.specs.Prelude.{ℕ}
use Rattle.ir_core.specs.declared.types.IrType.{IrType}
use Rattle.ir_core.specs.declared.types.IrType.TheVariants.{Ptr}
use Rattle.ir_core.specs.declared.ir_module.Module.{Module}
use Rattle.ir_core.specs.NumberTypes.{type_of, bits_of}
use Rattle.mi_code.specs.declared.operands.Width.{Width}
use Rattle.mi_code.specs.declared.operands.Width.TheVariants.{Int as Bits, Ptr as Address}

-- a pointer is a number of its own kind
abbrev pub width_of_type : IrType → Width
width_of_type Ptr = Address
width_of_type type = Bits (bits_of type)

-- of the type with a number
abbrev pub width_of : Module → ℕ → Width
width_of m ty = width_of_type (type_of m ty)

-- the bits of the type with a number
abbrev pub bits_at : Module → ℕ → ℕ
bits_at m ty = bits_of (type_of m ty)
