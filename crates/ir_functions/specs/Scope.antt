-- The operands of a function: registers and blocks by the numbers of their definitions, and constants by their values (LLVM
-- Language Reference, "Identifiers", "Simple Constants").
use Rattle.std.specs.Prelude.{ℕ, suc, ◌+◌, Bool, true, false, if◌then◌else◌, List, [], ◌∷◌, map, length, slice_get, Option, Some, None}
use Rattle.std.specs.Option.{option_map}
use Rattle.ir_core.specs.declared.token.Token.{Token}
use Rattle.ir_core.specs.declared.refusals.Place.{Place}
use Rattle.ir_core.specs.declared.types.IrType.{IrType}
use Rattle.ir_core.specs.declared.operands.Operand.{Operand}
use Rattle.ir_core.specs.declared.operands.Operand.TheVariants.{Reg, Null}
use Rattle.ir_core.specs.declared.operands.Placed.{Placed}
use Rattle.ir_core.specs.declared.operands.PhiEntry.{PhiEntry}
use Rattle.ir_core.specs.declared.operands.Case.{Case}
use Rattle.ir_core.specs.declared.ir_module.Module.{Module}
use Rattle.ir_grammar.specs.declared.spelled_bodies.SpelledOperand.{SpelledOperand}
use Rattle.ir_grammar.specs.declared.spelled_bodies.SpelledOperand.TheVariants as operands
use Rattle.ir_grammar.specs.declared.spelled_bodies.TypedOperand.{TypedOperand}
use Rattle.ir_grammar.specs.declared.spelled_bodies.SpelledIncoming.{SpelledIncoming}
use Rattle.ir_grammar.specs.declared.spelled_bodies.SpelledCase.{SpelledCase}
use Rattle.ir_type_numbers.specs.Numbering.{number_at}
use Rattle.ir_first_values.specs.Tables.{Tables}
use Rattle.ir_first_values.specs.Operands.{constant_operand}
use Rattle.ir_body_names.specs.declared.definitions.Definition.{Definition}
use Rattle.ir_body_names.specs.BodyFaults.{Surroundings, local_place}

-- What a function is resolved by: the names of the text, what its constants are made from, the module so far, the keys of
-- what the function defines, and the number of each definition.
pub record Scope : Type 0 where
  pub names : Surroundings
  pub tables : Tables
  pub built : Module
  pub keys : List (List ℕ)
  pub numbers : List ℕ

-- the number of each definition among those of its kind, from these numbers on: registers, and blocks
abbrev pub definition_numbers : (registers blocks : ℕ) → List Definition → List ℕ
definition_numbers registers blocks [] = []
definition_numbers registers blocks (d ∷ rest) =
    (if d.is_block then blocks else registers)
    ∷ definition_numbers (if d.is_block then registers else registers + 1) (if d.is_block then blocks + 1 else blocks) rest

-- how many types are spelled
abbrev pub spelled_types : Scope → ℕ
spelled_types s = length s.names.types

-- the number of the type that a spelled type stands for
abbrev pub type_number : Scope → ℕ → ℕ
type_number s ty = number_at s.tables.numbers ty

-- the number of the definition at a place, 0 if there is none
abbrev pub number_by : List ℕ → Option ℕ → ℕ
number_by numbers None = 0
number_by numbers (Some place) = number_at numbers place

-- the number of the register or block that a local names
abbrev pub local_number : Scope → Token → ℕ
local_number s name = number_by s.numbers (local_place s.names.source s.keys name)

-- a constant that fits its type, or one that doesn't
abbrev pub placed_constant : (ty : ℕ) → Place → Option Operand → Placed
placed_constant ty place None = record { operand = Null; ty = ty; fits = false; place = place }
placed_constant ty place (Some operand) = record { operand = operand; ty = ty; fits = true; place = place }

-- an operand of a type of the module
abbrev pub placed : Scope → (ty : ℕ) → SpelledOperand → Placed
placed s ty (operands.Register name) = record { operand = Reg (local_number s name); ty = ty; fits = true; place = name.place }
placed s ty (operands.Constant first number) = placed_constant ty first.place (constant_operand s.tables ty number)

-- an operand with its spelled type
abbrev pub typed : Scope → TypedOperand → Placed
typed s x = placed s (type_number s x.ty) x.value

-- the same, of a row
abbrev pub typed_row : Scope → List TypedOperand → List Placed
typed_row s xs = map (typed s) xs

-- an entry of a phi of a type
abbrev pub phi_entry : Scope → (ty : ℕ) → SpelledIncoming → PhiEntry
phi_entry s ty x = record { value = placed s ty x.value; block = local_number s x.block }

-- a case of a switch
abbrev pub switch_case : Scope → SpelledCase → Case
switch_case s x = record { value = typed s x.value; block = local_number s x.block }
