-- Widths in an accepted module: those of its integers are accepted ones, and those of a conversion are in its order.
use Rattle.std.proofs.Common.{◌≡◌, ℕ, ◌<◌, true, length, refl, arith}
use Rattle.std.proofs.lemmas.Bool.{ltb-true}
use Rattle.std.specs.List.{All}
use Rattle.hw_base.specs.declared.operators.CastOp.{CastOp}
use Rattle.hw_base.specs.declared.operators.CastOp.TheVariants.{Trunc, ZExt, SExt}
use Rattle.ir_arith.specs.Conversion.{IsConversion}
use Rattle.ir_core.specs.declared.types.IrType.{IrType}
use Rattle.ir_core.specs.declared.types.IrType.TheVariants.{Void, Int, Ptr}
use Rattle.ir_core.specs.declared.ir_module.Module.{Module}
use Rattle.ir_core.specs.Externals.{IsWidth}
use Rattle.ir_core.specs.NumberTypes.{type_of, bits_of}
use Rattle.ir_core.specs.Operations.{is_number_type}
use Rattle.ir_core.specs.Resolved.{IsResolvedType}
use Rattle.ir_check_types.specs.Operands.{is_integer}
use Rattle.ir_check_types.specs.Instructions.{is_cast}
use Rattle.ir_machine.specs.Operands.{bits_in}
use Rattle.mi_code.specs.Widths.{width_of_type}

pub type-resolved : (m : Module) → All (IsResolvedType m) m.types → (ty : ℕ) → ty < length m.types → IsResolvedType m (type_of m ty)
type-resolved m all ty there = all ty Void there

pub integer-width : (m : Module) (type : IrType) → IsResolvedType m type → is_integer type ≡ true → IsWidth (bits_of type)
integer-width m (Int width) resolved is = resolved
integer-width m other resolved is = absurd cc

pub number-width : (m : Module) (type : IrType) → IsResolvedType m type → is_number_type type ≡ true → IsWidth (bits_in (width_of_type type))
number-width m (Int width) resolved is = resolved
number-width m Ptr resolved is = record { some = omega arith; most = omega arith }
number-width m other resolved is = absurd cc

-- what a conversion goes to is an integer
pub cast-to : (kind : CastOp) (from to : IrType) → is_integer from ≡ true → is_cast kind from to ≡ true → is_integer to ≡ true
cast-to kind (Int a) (Int b) is cast = refl
cast-to Trunc (Int a) other is cast = absurd cc
cast-to ZExt (Int a) other is cast = absurd cc
cast-to SExt (Int a) other is cast = absurd cc
cast-to kind other to is cast = absurd cc

pub conversion : (kind : CastOp) (from to : IrType) → is_integer from ≡ true → is_cast kind from to ≡ true → IsConversion kind (bits_of from) (bits_of to)
conversion Trunc (Int a) (Int b) is cast = ltb-true b a cast
conversion ZExt (Int a) (Int b) is cast = ltb-true a b cast
conversion SExt (Int a) (Int b) is cast = ltb-true a b cast
conversion Trunc (Int a) other is cast = absurd cc
conversion ZExt (Int a) other is cast = absurd cc
conversion SExt (Int a) other is cast = absurd cc
conversion kind other to is cast = absurd cc
