-- The rules between brackets that all readers share, and what they give.
use Rattle.std.specs.Prelude.{ℕ}
use Rattle.ir_grammar.specs.declared.context.Context.{Context}
use Rattle.ir_grammar.specs.declared.spelled.TypedConstant.{TypedConstant}
use Rattle.ir_grammar.specs.declared.spelled.TypedIndex.{TypedIndex}
use Rattle.ir_grammar.specs.declared.spelled.SpelledParameter.{SpelledParameter}
use Rattle.ir_grammar.specs.declared.spelled_bodies.SpelledOperand.{SpelledOperand}
use Rattle.ir_grammar.specs.declared.spelled_bodies.TypedOperand.{TypedOperand}
use Rattle.ir_grammar.specs.declared.spelled_bodies.SpelledIncoming.{SpelledIncoming}
use Rattle.ir_grammar.specs.declared.spelled_bodies.SpelledCase.{SpelledCase}
use Rattle.ir_grammar.specs.declared.spelled_bodies.SpelledAttachment.{SpelledAttachment}
use Rattle.ir_grammar.specs.declared.spelled_bodies.SpelledOperation.{SpelledOperation}
use Rattle.ir_grammar.specs.declared.spelled_bodies.SpelledInstruction.{SpelledInstruction}
use Rattle.ir_grammar.specs.declared.spelled_bodies.SpelledBlock.{SpelledBlock}
use Rattle.ir_grammar.specs.Rules.{Sort, nothing, base, list, Signature, Rule}
use Rattle.ir_grammar.specs.Spelled.{Store}

-- what the shared rules give of their own: the number of a type, that of a constant, an element, an index, a parameter; and
-- in bodies an operand, one with its type, an entry of a phi, a case of a switch, an attachment, an operation, an
-- instruction, a block
pub data Base : Type 0 where
  number : Base
  constant : Base
  element : Base
  index : Base
  parameter : Base
  operand : Base
  typed : Base
  incoming : Base
  case : Base
  attachment : Base
  operation : Base
  instruction : Base
  block : Base

-- their values
abbrev pub Carrier : Base → Type 0
Carrier number = ℕ
Carrier constant = ℕ
Carrier element = TypedConstant
Carrier index = TypedIndex
Carrier parameter = SpelledParameter
Carrier operand = SpelledOperand
Carrier typed = TypedOperand
Carrier incoming = SpelledIncoming
Carrier case = SpelledCase
Carrier attachment = SpelledAttachment
Carrier operation = SpelledOperation
Carrier instruction = SpelledInstruction
Carrier block = SpelledBlock

-- what stands between brackets: an array's integer and type, a struct's types, a constant's elements, the parts of a
-- `getelementptr`, the parameters of a function, and a run that is skipped; and in bodies an entry of a phi, the pair that
-- `extractvalue` takes, the arguments of a call, the cases of a switch, a synchronization scope, and the blocks
pub data Name : Type 0 where
  array_inside : Context → Name
  types_inside : Context → Name
  elements_inside : Name
  address_inside : Name
  parameters_inside : Context → Name
  any_inside : Name
  incoming_inside : Name
  pair_inside : Name
  arguments_inside : Name
  cases_inside : Name
  scope_inside : Name
  blocks_inside : Name

-- what each gives
abbrev pub sort_of : Name → Sort Base
sort_of (array_inside c) = base number
sort_of (types_inside c) = list (base number)
sort_of elements_inside = list (base element)
sort_of address_inside = base constant
sort_of (parameters_inside c) = list (base parameter)
sort_of any_inside = nothing
sort_of incoming_inside = base incoming
sort_of pair_inside = base number
sort_of arguments_inside = list (base typed)
sort_of cases_inside = list (base case)
sort_of scope_inside = nothing
sort_of blocks_inside = list (base block)

-- the signature of the shared rules
abbrev pub shared : Signature
shared = record { Base = Base; Carrier = Carrier; Name = Name; sort_of = sort_of; Store = Store }

-- a shared rule
abbrev pub Production : Sort Base → Type 0
Production s = Rule shared s
