-- What reading of function bodies builds: operands, operations, instructions and blocks, in order of their ends.
use Rattle.std.specs.Prelude.{ℕ, List, [], ◌∷◌, ◌++◌, length, Option, None, Some}
use Rattle.ir_core.specs.declared.token.Token.{Token}
use Rattle.ir_grammar.specs.declared.terminal.Terminal.{Terminal}
use Rattle.ir_grammar.specs.declared.spelled.SpelledConstant.{SpelledConstant}
use Rattle.ir_grammar.specs.declared.spelled_bodies.SpelledOperand.{SpelledOperand}
use Rattle.ir_grammar.specs.declared.spelled_bodies.SpelledOperand.TheVariants as operands
use Rattle.ir_grammar.specs.declared.spelled_bodies.TypedOperand.{TypedOperand}
use Rattle.ir_grammar.specs.declared.spelled_bodies.SpelledIncoming.{SpelledIncoming}
use Rattle.ir_grammar.specs.declared.spelled_bodies.SpelledCase.{SpelledCase}
use Rattle.ir_grammar.specs.declared.spelled_bodies.SpelledAttachment.{SpelledAttachment}
use Rattle.ir_grammar.specs.declared.spelled_bodies.SpelledOperation.{SpelledOperation}
use Rattle.ir_grammar.specs.declared.spelled_bodies.SpelledOperation.TheVariants as operations
use Rattle.ir_grammar.specs.declared.spelled_bodies.SpelledInstruction.{SpelledInstruction}
use Rattle.ir_grammar.specs.declared.spelled_bodies.SpelledBlock.{SpelledBlock}
use Rattle.ir_grammar.specs.BodyStore.{BodyStore}
use Rattle.ir_grammar.specs.declared.spelled.SpelledParameter.{SpelledParameter}
use Rattle.ir_grammar.specs.declared.spelled.SpelledItem.TheVariants as items
use Rattle.ir_grammar.specs.Spelled.{Store, add_constant, add_item}

-- the store with these lists of bodies
abbrev pub with_bodies : Store → BodyStore → Store
with_bodies store bodies = record store { bodies = bodies }

-- the constant is added, and the operand begins at this token
abbrev pub add_operand : Terminal → SpelledConstant → Store → SpelledOperand × Store
add_operand t c store = (operands.Constant t.token (add_constant c store).0, (add_constant c store).1)

-- operands are added in a row
abbrev pub with_operands : List TypedOperand → Store → Store
with_operands found store = with_bodies store (record (store.bodies) { operands = store.bodies.operands ++ found })

-- entries of a phi are added in a row
abbrev pub with_incoming : List SpelledIncoming → Store → Store
with_incoming found store = with_bodies store (record (store.bodies) { incoming = store.bodies.incoming ++ found })

-- cases are added in a row
abbrev pub with_cases : List SpelledCase → Store → Store
with_cases found store = with_bodies store (record (store.bodies) { cases = store.bodies.cases ++ found })

-- attachments are added in a row
abbrev pub with_attachments : List SpelledAttachment → Store → Store
with_attachments found store = with_bodies store (record (store.bodies) { attachments = store.bodies.attachments ++ found })

-- instructions are added in a row
abbrev pub with_instructions : List SpelledInstruction → Store → Store
with_instructions found store = with_bodies store (record (store.bodies) { instructions = store.bodies.instructions ++ found })

-- blocks are added in a row
abbrev pub with_blocks : List SpelledBlock → Store → Store
with_blocks found store = with_bodies store (record (store.bodies) { blocks = store.bodies.blocks ++ found })

-- parameters are added in a row
abbrev pub with_parameters : List SpelledParameter → Store → Store
with_parameters found store = record store { parameters = store.parameters ++ found }

-- the definition of a function with these parameters and blocks, which are added in a row each
abbrev pub add_define : Token → ℕ → List SpelledParameter → List SpelledBlock → Store → Unit {0} × Store
add_define name result parameters found store =
    add_item (items.Define name result (length store.parameters) (length parameters) (length store.bodies.blocks) (length found))
    (with_blocks found (with_parameters parameters store))

-- a phi of this type, with these entries
abbrev pub add_phi : ℕ → List SpelledIncoming → Store → SpelledOperation × Store
add_phi ty found store = (operations.Phi ty (length store.bodies.incoming) (length found), with_incoming found store)

-- an address of a part of the type, from the base on, by these indices
abbrev pub add_step : ℕ → SpelledOperand → List TypedOperand → Store → SpelledOperation × Store
add_step of base found store = (operations.GetElementPtr of base (length store.bodies.operands) (length found), with_operands found store)

-- a call of this function with this result type and these arguments
abbrev pub add_call : Token → ℕ → List TypedOperand → Store → SpelledOperation × Store
add_call name result found store = (operations.Call name result (length store.bodies.operands) (length found), with_operands found store)

-- a switch with these cases
abbrev pub add_switch : TypedOperand → Token → List SpelledCase → Store → SpelledOperation × Store
add_switch value other found store = (operations.Switch value other (length store.bodies.cases) (length found), with_cases found store)

-- an instruction with these attachments
abbrev pub add_instruction : Option Token → Token → SpelledOperation → List SpelledAttachment → Store → SpelledInstruction × Store
add_instruction result word operation found store = (
  record { result = result; word = word; operation = operation; first = length store.bodies.attachments; count = length found },
  with_attachments found store,
)

-- an instruction, if it does something
abbrev pub add_kept : Option Token → Token → Option SpelledOperation → List SpelledAttachment → Store → Option SpelledInstruction × Store
add_kept result word None found store = (None, store)
add_kept result word (Some operation) found store = (Some (add_instruction result word operation found store).0, (add_instruction result word operation found store).1)

-- those that are there
abbrev pub kept_ones : {A : Type 0} → List (Option A) → List A
kept_ones [] = []
kept_ones (None ∷ rest) = kept_ones rest
kept_ones (Some x ∷ rest) = x ∷ kept_ones rest

-- a block of these instructions
abbrev pub add_block : Option Token → List SpelledInstruction → Store → SpelledBlock × Store
add_block label found store = (record { label = label; first = length store.bodies.instructions; count = length found }, with_instructions found store)
