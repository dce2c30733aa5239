-- The names that the instructions of a function use: registers, blocks, debug locations and called functions.
use Rattle.std.specs.Prelude.{ℕ, Bool, if◌then◌else◌, List, [], ◌∷◌, ◌++◌, take, drop, Option, None, Some, codes}
use Rattle.std.specs.List.{flat_map}
use Rattle.std.specs.Str.{bytes_eq}
use Rattle.ir_core.specs.declared.token.Token.{Token}
use Rattle.ir_core.specs.Tokens.{bytes_of}
use Rattle.ir_grammar.specs.declared.spelled_bodies.SpelledOperand.{SpelledOperand}
use Rattle.ir_grammar.specs.declared.spelled_bodies.SpelledOperand.TheVariants as operands
use Rattle.ir_grammar.specs.declared.spelled_bodies.TypedOperand.{TypedOperand}
use Rattle.ir_grammar.specs.declared.spelled_bodies.SpelledIncoming.{SpelledIncoming}
use Rattle.ir_grammar.specs.declared.spelled_bodies.SpelledCase.{SpelledCase}
use Rattle.ir_grammar.specs.declared.spelled_bodies.SpelledAttachment.{SpelledAttachment}
use Rattle.ir_grammar.specs.declared.spelled_bodies.SpelledOperation.{SpelledOperation}
use Rattle.ir_grammar.specs.declared.spelled_bodies.SpelledOperation.TheVariants as operations
use Rattle.ir_grammar.specs.declared.spelled_bodies.SpelledInstruction.{SpelledInstruction}
use Rattle.ir_grammar.specs.declared.spelled_bodies.SpelledBlock.{SpelledBlock}
use Rattle.ir_grammar.specs.BodyStore.{BodyStore}
use Rattle.ir_body_names.specs.declared.uses.Use.{Use}
use Rattle.ir_body_names.specs.declared.uses.Use.TheVariants.{Register, Target, Origin, Location, Callee}
use Rattle.ir_body_names.specs.Definitions.{instructions_of}

-- an operand uses the register that it names; a constant uses none
abbrev pub operand_uses : SpelledOperand → List Use
operand_uses (operands.Register name) = Register name ∷ []
operand_uses (operands.Constant first number) = []

abbrev pub typed_uses : TypedOperand → List Use
typed_uses x = operand_uses x.value

abbrev pub count_uses : Option TypedOperand → List Use
count_uses None = []
count_uses (Some x) = typed_uses x

abbrev pub returned_uses : Option SpelledOperand → List Use
returned_uses None = []
returned_uses (Some x) = operand_uses x

-- an entry of a phi uses its value, and the block that it comes from
abbrev pub incoming_uses : SpelledIncoming → List Use
incoming_uses x = operand_uses x.value ++ Origin x.block ∷ []

-- a case of a switch uses the block that it leads to
abbrev pub case_uses : SpelledCase → List Use
case_uses x = typed_uses x.value ++ Target x.block ∷ []

-- what an instruction uses beside its attachments
abbrev pub operation_uses : BodyStore → SpelledOperation → List Use
operation_uses s (operations.Binary a b) = typed_uses a ++ operand_uses b
operation_uses s (operations.Icmp predicate a b) = typed_uses a ++ operand_uses b
operation_uses s (operations.Cast a to) = typed_uses a
operation_uses s (operations.Freeze a) = typed_uses a
operation_uses s (operations.Select condition a b) = operand_uses condition ++ (typed_uses a ++ typed_uses b)
operation_uses s (operations.Phi ty first count) = flat_map incoming_uses (take count (drop first s.incoming))
operation_uses s (operations.Alloca ty count alignment) = count_uses count
operation_uses s (operations.Load ty pointer alignment) = operand_uses pointer
operation_uses s (operations.Store value pointer alignment) = typed_uses value ++ operand_uses pointer
operation_uses s (operations.GetElementPtr of base first count) = operand_uses base ++ flat_map typed_uses (take count (drop first s.operands))
operation_uses s operations.Fence = []
operation_uses s (operations.AtomicRmw operator pointer value alignment) = operand_uses pointer ++ typed_uses value
operation_uses s (operations.CmpXchg pointer expected new alignment) = operand_uses pointer ++ (typed_uses expected ++ typed_uses new)
operation_uses s (operations.ExtractValue of value part) = operand_uses value
operation_uses s (operations.Call name result first count) = Callee name ∷ flat_map typed_uses (take count (drop first s.operands))
operation_uses s (operations.Return ty value) = returned_uses value
operation_uses s (operations.Jump block) = Target block ∷ []
operation_uses s (operations.Branch condition yes_block no_block) = operand_uses condition ++ Target yes_block ∷ Target no_block ∷ []
operation_uses s (operations.Switch value other first count) = typed_uses value ++ Target other ∷ flat_map case_uses (take count (drop first s.cases))
operation_uses s operations.Unreachable = []

-- the metadata says where the instruction comes from
abbrev pub is_debug_location : List ℕ → Token → Bool
is_debug_location source name = bytes_eq (bytes_of source name) (codes "!dbg")

-- such an attachment uses a location
abbrev pub attachment_uses : List ℕ → SpelledAttachment → List Use
attachment_uses source a = if is_debug_location source a.name then Location a.node ∷ [] else []

-- all that an instruction uses
abbrev pub instruction_uses : List ℕ → BodyStore → SpelledInstruction → List Use
instruction_uses source s i =
    operation_uses s i.operation ++ flat_map (attachment_uses source) (take i.count (drop i.first s.attachments))

-- all that the instructions of blocks use
abbrev pub block_uses : List ℕ → BodyStore → SpelledBlock → List Use
block_uses source s b = flat_map (instruction_uses source s) (instructions_of s.instructions b)

abbrev pub uses : List ℕ → BodyStore → List SpelledBlock → List Use
uses source s blocks = flat_map (block_uses source s) blocks
