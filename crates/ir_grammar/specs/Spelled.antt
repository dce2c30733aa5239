-- What reading builds: the types, constants and items that a text spells, in order of their ends, so that a part has a lower
-- number than what it is part of. Names stay tokens: what they mean is decided later.
use Rattle.std.specs.Prelude.{ℕ, List, [], ◌∷◌, ◌++◌, length, Bool, Option, None, Some, Ok}
use Rattle.ir_core.specs.declared.token.Token.{Token}
use Rattle.ir_grammar.specs.declared.kind.Kind.TheVariants.{Negative}
use Rattle.ir_grammar.specs.declared.terminal.Terminal.{Terminal}
use Rattle.ir_grammar.specs.declared.spelled.SpelledInteger.{SpelledInteger}
use Rattle.ir_grammar.specs.declared.spelled.SpelledType.{SpelledType}
use Rattle.ir_grammar.specs.declared.spelled.SpelledType.TheVariants as types
use Rattle.ir_grammar.specs.declared.spelled.SpelledConstant.{SpelledConstant}
use Rattle.ir_grammar.specs.declared.spelled.SpelledConstant.TheVariants as constants
use Rattle.ir_grammar.specs.declared.spelled.TypedConstant.{TypedConstant}
use Rattle.ir_grammar.specs.declared.spelled.TypedIndex.{TypedIndex}
use Rattle.ir_grammar.specs.declared.spelled.SpelledParameter.{SpelledParameter}
use Rattle.ir_grammar.specs.declared.spelled.SpelledItem.{SpelledItem}
use Rattle.ir_grammar.specs.declared.spelled.SpelledItem.TheVariants as items
use Rattle.ir_grammar.specs.declared.reader.Spellings.{Spellings}
use Rattle.ir_grammar.specs.declared.reader.SpelledBodies.{SpelledBodies}
use Rattle.ir_grammar.specs.BodyStore.{BodyStore}
use Rattle.ir_grammar.specs.Kinds.{is_same}
use Rattle.ir_grammar.specs.Reading.{Outcome}

-- an integer's number, and whether it is below 0
abbrev pub integer_of : Terminal → SpelledInteger
integer_of t = record { magnitude = t.number; negative = is_same t.kind Negative }

-- its token, where there is one
abbrev pub token_in : Option Terminal → Option Token
token_in None = None
token_in (Some t) = Some t.token

-- the lists that reading adds to
pub record Store : Type 0 where
  pub types : List SpelledType
  pub fields : List ℕ
  pub constants : List SpelledConstant
  pub elements : List TypedConstant
  pub indices : List TypedIndex
  pub parameters : List SpelledParameter
  pub items : List SpelledItem
  pub bodies : BodyStore

-- the type is added, and its value is its number
abbrev pub add_type : SpelledType → Store → ℕ × Store
add_type t store = (length store.types, record store { types = store.types ++ t ∷ [] })

-- the struct of these fields, which are added in a row
abbrev pub add_struct_type : Bool → List ℕ → Store → ℕ × Store
add_struct_type packed found store =
    add_type (types.Struct (length store.fields) (length found) packed) (record store { fields = store.fields ++ found })

-- the constant is added, and its value is its number
abbrev pub add_constant : SpelledConstant → Store → ℕ × Store
add_constant c store = (length store.constants, record store { constants = store.constants ++ c ∷ [] })

-- the array of these elements, which are added in a row
abbrev pub add_array : List TypedConstant → Store → ℕ × Store
add_array found store =
    add_constant (constants.Array (length store.elements) (length found)) (record store { elements = store.elements ++ found })

-- the struct of these elements, which are added in a row
abbrev pub add_struct : Bool → List TypedConstant → Store → ℕ × Store
add_struct packed found store =
    add_constant (constants.Struct (length store.elements) (length found) packed) (record store { elements = store.elements ++ found })

-- the address of a part of the type, from the base on, by these indices, which are added in a row
abbrev pub add_address : ℕ → ℕ → List TypedIndex → Store → ℕ × Store
add_address ty base found store =
    add_constant (constants.Address ty base (length store.indices) (length found)) (record store { indices = store.indices ++ found })

-- the item is added
abbrev pub add_item : SpelledItem → Store → Unit {0} × Store
add_item item store = (tt, record store { items = store.items ++ item ∷ [] })

-- the declare of a function with these parameters, which are added in a row
abbrev pub add_declare : Token → ℕ → List SpelledParameter → Store → Unit {0} × Store
add_declare name result found store =
    add_item (items.Declare name result (length store.parameters) (length found)) (record store { parameters = store.parameters ++ found })

-- the lists of bodies of the reader
abbrev pub bodies_of : SpelledBodies → BodyStore
bodies_of s = record {
  operands = s.operands.items;
  incoming = s.incoming.items;
  cases = s.cases.items;
  attachments = s.attachments.items;
  instructions = s.instructions.items;
  blocks = s.blocks.items;
}

-- the lists of the reader
abbrev pub store_of : Spellings → Store
store_of s = record { types = s.types.items; fields = s.fields.items; constants = s.constants.items; elements = s.elements.items; indices = s.indices.items; parameters = s.parameters.items; items = s.items.items; bodies = bodies_of s.bodies }

-- a value and a store, with the tokens that are left
abbrev pub with_rest : {A : Type 0} → A × Store → List Terminal → Outcome Store A
with_rest x rest = Ok (x.0, rest, x.1)

-- a number and a store, with the tokens that are left
abbrev pub added : ℕ × Store → List Terminal → Outcome Store ℕ
added x rest = Ok (x.0, rest, x.1)
