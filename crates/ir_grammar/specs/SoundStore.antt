-- What is true of all that was read: each number in it names a thing that is there, widths and counts are in range, and
-- there is little of it, beside the tokens.
use Rattle.std.specs.Prelude.{ℕ, ◌+◌, ◌<◌, ◌≤◌, ◌^◌, ◌≡◌, [], ◌∷◌, length, All, true, Option, None, Some}
use Rattle.ir_grammar.specs.declared.kind.Kind.TheVariants.{IntType, BitType}
use Rattle.ir_grammar.specs.declared.terminal.Terminal.{Terminal}
use Rattle.ir_grammar.specs.declared.spelled.SpelledType.{SpelledType}
use Rattle.ir_grammar.specs.declared.spelled.SpelledType.TheVariants as types
use Rattle.ir_grammar.specs.declared.spelled.SpelledConstant.{SpelledConstant}
use Rattle.ir_grammar.specs.declared.spelled.SpelledConstant.TheVariants as constants
use Rattle.ir_grammar.specs.declared.spelled.SpelledItem.{SpelledItem}
use Rattle.ir_grammar.specs.declared.spelled.SpelledItem.TheVariants as items
use Rattle.ir_grammar.specs.declared.spelled.SpelledParameter.{SpelledParameter}
use Rattle.ir_grammar.specs.declared.spelled.TypedConstant.{TypedConstant}
use Rattle.ir_grammar.specs.declared.spelled.TypedIndex.{TypedIndex}
use Rattle.ir_grammar.specs.declared.spelled_bodies.SpelledOperand.{SpelledOperand}
use Rattle.ir_grammar.specs.declared.spelled_bodies.TypedOperand.{TypedOperand}
use Rattle.ir_grammar.specs.declared.spelled_bodies.SpelledIncoming.{SpelledIncoming}
use Rattle.ir_grammar.specs.declared.spelled_bodies.SpelledCase.{SpelledCase}
use Rattle.ir_grammar.specs.declared.spelled_bodies.SpelledOperation.{SpelledOperation}
use Rattle.ir_grammar.specs.declared.spelled_bodies.SpelledInstruction.{SpelledInstruction}
use Rattle.ir_grammar.specs.declared.spelled_bodies.SpelledBlock.{SpelledBlock}
use Rattle.ir_grammar.specs.declared.spelled_bodies.SpelledOperand.TheVariants as operands
use Rattle.ir_grammar.specs.declared.spelled_bodies.SpelledOperation.TheVariants as operations
use Rattle.ir_grammar.specs.BodyStore.{BodyStore}
use Rattle.ir_grammar.specs.Kinds.{is_among}
use Rattle.ir_grammar.specs.Words.{counts}
use Rattle.ir_grammar.specs.Spelled.{Store}

-- a token's number is in the range that its kind says: a width from 1 to 128, a count below 2^64
pub record IsInRange (t : Terminal) : Type 0 where
  pub width : is_among (IntType ∷ BitType ∷ []) t.kind ≡ true → (1 ≤ t.number) × (t.number ≤ 128)
  pub count : is_among counts t.kind ≡ true → t.number < 2 ^ 64

-- a type, among so many types and fields
abbrev pub IsSoundType : ℕ → ℕ → SpelledType → Type 0
IsSoundType n m (types.Int width) = (1 ≤ width) × (width ≤ 128)
IsSoundType n m (types.Array count item) = (count < 2 ^ 64) × (item < n)
IsSoundType n m (types.Struct first count packed) = first + count ≤ m
IsSoundType n m _ = Unit {0}

-- how many things of each kind there are
pub record Counts : Type 0 where
  pub types : ℕ
  pub constants : ℕ
  pub elements : ℕ
  pub indices : ℕ
  pub parameters : ℕ
  pub operands : ℕ
  pub incoming : ℕ
  pub cases : ℕ
  pub attachments : ℕ
  pub instructions : ℕ
  pub blocks : ℕ

-- those of a store
abbrev pub counts_of : Store → Counts
counts_of store = record {
  types = length store.types;
  constants = length store.constants;
  elements = length store.elements;
  indices = length store.indices;
  parameters = length store.parameters;
  operands = length store.bodies.operands;
  incoming = length store.bodies.incoming;
  cases = length store.bodies.cases;
  attachments = length store.bodies.attachments;
  instructions = length store.bodies.instructions;
  blocks = length store.bodies.blocks;
}

-- a constant, among so many things
abbrev pub IsSoundConstant : Counts → SpelledConstant → Type 0
IsSoundConstant n (constants.Array first count) = first + count ≤ n.elements
IsSoundConstant n (constants.Struct first count packed) = first + count ≤ n.elements
IsSoundConstant n (constants.Address ty base first count) = (ty < n.types) × (base < n.constants) × (first + count ≤ n.indices)
IsSoundConstant n _ = Unit {0}

-- an element
abbrev pub IsSoundElement : Counts → TypedConstant → Type 0
IsSoundElement n e = (e.ty < n.types) × (e.value < n.constants)

-- an index
abbrev pub IsSoundIndex : Counts → TypedIndex → Type 0
IsSoundIndex n i = i.ty < n.types

-- a parameter
abbrev pub IsSoundParameter : Counts → SpelledParameter → Type 0
IsSoundParameter n p = p.ty < n.types

-- an item
abbrev pub IsSoundItem : Counts → SpelledItem → Type 0
IsSoundItem n (items.Type name ty) = ty < n.types
IsSoundItem n (items.Global name constant ty value) = (ty < n.types) × (value < n.constants)
IsSoundItem n (items.Declare name result first count) = (result < n.types) × (first + count ≤ n.parameters)
IsSoundItem n (items.Define name result first count entry blocks) = (result < n.types) × (first + count ≤ n.parameters) × (entry + blocks ≤ n.blocks)
IsSoundItem n _ = Unit {0}

-- an operand
abbrev pub IsSoundOperand : Counts → SpelledOperand → Type 0
IsSoundOperand n (operands.Register t) = Unit {0}
IsSoundOperand n (operands.Constant t number) = number < n.constants

-- an operand with its type
abbrev pub IsSoundTyped : Counts → TypedOperand → Type 0
IsSoundTyped n x = (x.ty < n.types) × IsSoundOperand n x.value

-- an operand with its type, that may be absent
abbrev pub IsSoundCount : Counts → Option TypedOperand → Type 0
IsSoundCount n None = Unit {0}
IsSoundCount n (Some x) = IsSoundTyped n x

-- an operand that may be absent
abbrev pub IsSoundReturned : Counts → Option SpelledOperand → Type 0
IsSoundReturned n None = Unit {0}
IsSoundReturned n (Some x) = IsSoundOperand n x

-- an entry of a phi
abbrev pub IsSoundIncoming : Counts → SpelledIncoming → Type 0
IsSoundIncoming n x = IsSoundOperand n x.value

-- a case of a switch
abbrev pub IsSoundCase : Counts → SpelledCase → Type 0
IsSoundCase n x = IsSoundTyped n x.value

-- what an instruction does
abbrev pub IsSoundOperation : Counts → SpelledOperation → Type 0
IsSoundOperation n (operations.Binary a b) = IsSoundTyped n a × IsSoundOperand n b
IsSoundOperation n (operations.Icmp predicate a b) = IsSoundTyped n a × IsSoundOperand n b
IsSoundOperation n (operations.Cast a to) = IsSoundTyped n a × (to < n.types)
IsSoundOperation n (operations.Freeze a) = IsSoundTyped n a
IsSoundOperation n (operations.Select condition a b) = IsSoundOperand n condition × IsSoundTyped n a × IsSoundTyped n b
IsSoundOperation n (operations.Phi ty first count) = (ty < n.types) × (first + count ≤ n.incoming)
IsSoundOperation n (operations.Alloca ty count alignment) = (ty < n.types) × IsSoundCount n count
IsSoundOperation n (operations.Load ty pointer alignment) = (ty < n.types) × IsSoundOperand n pointer
IsSoundOperation n (operations.Store value pointer alignment) = IsSoundTyped n value × IsSoundOperand n pointer
IsSoundOperation n (operations.GetElementPtr of base first count) = (of < n.types) × IsSoundOperand n base × (first + count ≤ n.operands)
IsSoundOperation n operations.Fence = Unit {0}
IsSoundOperation n (operations.AtomicRmw operator pointer value alignment) = IsSoundOperand n pointer × IsSoundTyped n value
IsSoundOperation n (operations.CmpXchg pointer expected new alignment) = IsSoundOperand n pointer × IsSoundTyped n expected × IsSoundTyped n new
IsSoundOperation n (operations.ExtractValue of value part) = (of < n.types) × IsSoundOperand n value
IsSoundOperation n (operations.Call name result first count) = (result < n.types) × (first + count ≤ n.operands)
IsSoundOperation n (operations.Return ty value) = (ty < n.types) × IsSoundReturned n value
IsSoundOperation n (operations.Jump block) = Unit {0}
IsSoundOperation n (operations.Branch condition _ _) = IsSoundOperand n condition
IsSoundOperation n (operations.Switch value other first count) = IsSoundTyped n value × (first + count ≤ n.cases)
IsSoundOperation n operations.Unreachable = Unit {0}

-- an instruction
abbrev pub IsSoundInstruction : Counts → SpelledInstruction → Type 0
IsSoundInstruction n i = IsSoundOperation n i.operation × (i.first + i.count ≤ n.attachments)

-- a block: it has a terminator
abbrev pub IsSoundBlock : Counts → SpelledBlock → Type 0
IsSoundBlock n b = (b.first + b.count ≤ n.instructions) × (1 ≤ b.count)

-- all that was read of bodies
pub record IsSoundBodies (n : Counts) (bodies : BodyStore) : Type 0 where
  pub operands : All (IsSoundTyped n) bodies.operands
  pub incoming : All (IsSoundIncoming n) bodies.incoming
  pub cases : All (IsSoundCase n) bodies.cases
  pub instructions : All (IsSoundInstruction n) bodies.instructions
  pub blocks : All (IsSoundBlock n) bodies.blocks

-- all that was read
pub record IsSoundStore (store : Store) : Type 0 where
  pub types : All (IsSoundType (length store.types) (length store.fields)) store.types
  pub fields : All (λ n. n < length store.types) store.fields
  pub constants : All (IsSoundConstant (counts_of store)) store.constants
  pub elements : All (IsSoundElement (counts_of store)) store.elements
  pub indices : All (IsSoundIndex (counts_of store)) store.indices
  pub parameters : All (IsSoundParameter (counts_of store)) store.parameters
  pub items : All (IsSoundItem (counts_of store)) store.items
  pub bodies : IsSoundBodies (counts_of store) store.bodies

-- how much was read of bodies
abbrev pub bodies_size : BodyStore → ℕ
bodies_size b = length b.operands + length b.incoming + length b.cases + length b.attachments + length b.instructions + length b.blocks

-- how much was read
abbrev pub size_of : Store → ℕ
size_of store = length store.types + length store.fields + length store.constants + length store.elements + length store.indices + length store.parameters + length store.items + bodies_size store.bodies
