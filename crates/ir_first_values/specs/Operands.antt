-- The constants that instructions name, as operands (LLVM Language Reference, "Simple Constants"). An operand has an integer
-- type or `ptr`; a pair of an integer and an `i1` can only be zero.
use Rattle.std.specs.Prelude.{ℕ, slice_get, Option, Some, None}
use Rattle.ir_core.specs.declared.types.IrType.{IrType}
use Rattle.ir_core.specs.declared.types.IrType.TheVariants.{Int, Ptr, Pair}
use Rattle.ir_core.specs.declared.operands.Operand.{Operand}
use Rattle.ir_core.specs.declared.operands.Operand.TheVariants.{Int as Number}
use Rattle.ir_grammar.specs.declared.spelled.SpelledConstant.{SpelledConstant}
use Rattle.ir_grammar.specs.declared.spelled.SpelledConstant.TheVariants as constants
use Rattle.ir_grammar.specs.Grammar.{nesting_limit}
use Rattle.ir_first_values.specs.declared.addresses.Address.{Address}
use Rattle.ir_first_values.specs.Tables.{Tables, type_at, integer_in}
use Rattle.ir_first_values.specs.Addresses.{address_of, if_there}
use Rattle.ir_first_values.specs.FirstValues.{bool_in, operand_of}

-- a number as an operand
abbrev pub number_operand : Option ℕ → Option Operand
number_operand (Some n) = Some (Number n)
number_operand None = None

-- a constant of an integer type of so many bits
abbrev pub integer_operand : ℕ → SpelledConstant → Option Operand
integer_operand width (constants.Integer i) = number_operand (integer_in width i)
integer_operand width (constants.Bool b) = number_operand (bool_in b width)
integer_operand width constants.Zero = Some (Number 0)
integer_operand width other = None

-- a constant of the type `ptr`, by the address that it spells
abbrev pub address_operand : Option Address → Option Operand
address_operand (Some a) = Some (operand_of a.variable a.offset)
address_operand None = None

-- a constant pair
abbrev pub pair_operand : SpelledConstant → Option Operand
pair_operand constants.Zero = Some (Number 0)
pair_operand other = None

-- a constant of a type, by the address that it spells
abbrev pub typed_operand : Option Address → SpelledConstant → Option IrType → Option Operand
typed_operand address constant (Some (Int width)) = integer_operand width constant
typed_operand address constant (Some Ptr) = address_operand address
typed_operand address constant (Some (Pair width)) = pair_operand constant
typed_operand address constant other = None

-- the constant with a number as an operand of a type, or none if it breaks a rule
abbrev pub constant_operand : Tables → (ty constant : ℕ) → Option Operand
constant_operand t ty c = if_there (slice_get t.constants c) (λ constant. typed_operand (address_of nesting_limit t c) constant (type_at t ty))
