-- What a function defines, and by which names: its parameters, blocks and results share one set of names, and those without
-- a name one counter (LLVM Language Reference, "Identifiers" and "Functions").
use Rattle.std.specs.Prelude.{ℕ, ◌+◌, ◌-◌, ◌||◌, not, Bool, true, false, if◌then◌else◌, List, [], ◌∷◌, ◌++◌, map, take, drop, length, reverse, slice_get, Option, None, Some, is_some}
use Rattle.std.specs.List.{flat_map}
use Rattle.ir_core.specs.declared.token.Token.{Token}
use Rattle.ir_core.specs.Tokens.{bytes_of}
use Rattle.ir_text.specs.TokenText.{significant}
use Rattle.ir_text.specs.Names.{name_key}
use Rattle.ir_grammar.specs.declared.spelled.SpelledType.{SpelledType}
use Rattle.ir_grammar.specs.declared.spelled.SpelledType.TheVariants as types
use Rattle.ir_grammar.specs.declared.spelled.SpelledParameter.{SpelledParameter}
use Rattle.ir_grammar.specs.declared.spelled_bodies.SpelledOperation.{SpelledOperation}
use Rattle.ir_grammar.specs.declared.spelled_bodies.SpelledOperation.TheVariants as operations
use Rattle.ir_grammar.specs.declared.spelled_bodies.SpelledInstruction.{SpelledInstruction}
use Rattle.ir_grammar.specs.declared.spelled_bodies.SpelledBlock.{SpelledBlock}
use Rattle.ir_names.specs.Keys.{behind_sigil}
use Rattle.ir_names.specs.Faults.{is_number}
use Rattle.ir_type_numbers.specs.Numbering.{number_at}
use Rattle.ir_body_names.specs.declared.definitions.Definition.{Definition}
use Rattle.ir_body_names.specs.Counters.{next, low_digits}

-- ---- results

-- the type is `void`, spelled so or by a name for it
abbrev pub is_void_type : Option SpelledType → Bool
is_void_type (Some types.Void) = true
is_void_type other = false

-- the type that a spelled type stands for is `void`. A name without a definition is not
abbrev pub is_void : List SpelledType → List ℕ → ℕ → Bool
is_void types numbers ty = is_void_type (slice_get types (number_at numbers ty))

-- The instruction has a value, which takes a name or else a number. Where the value's type is spelled, it has one unless
-- that is `void`.
abbrev pub has_value : (ℕ → Bool) → SpelledOperation → Bool
has_value void (operations.Binary a b) = not (void a.ty)
has_value void (operations.Icmp predicate a b) = true
has_value void (operations.Cast a to) = not (void to)
has_value void (operations.Freeze a) = not (void a.ty)
has_value void (operations.Select condition a b) = not (void a.ty)
has_value void (operations.Phi ty first count) = not (void ty)
has_value void (operations.Alloca ty count alignment) = true
has_value void (operations.Load ty pointer alignment) = not (void ty)
has_value void (operations.Store value pointer alignment) = false
has_value void (operations.GetElementPtr of base first count) = true
has_value void operations.Fence = false
has_value void (operations.AtomicRmw operator pointer value alignment) = not (void value.ty)
has_value void (operations.CmpXchg pointer expected new alignment) = true
has_value void (operations.ExtractValue of value part) = true
has_value void (operations.Call name result first count) = not (void result)
has_value void (operations.Return ty value) = false
has_value void (operations.Jump block) = false
has_value void (operations.Branch condition yes_block no_block) = false
has_value void (operations.Switch value other first count) = false
has_value void operations.Unreachable = false

-- ---- what is defined, in order of the text

abbrev pub parameter_definition : SpelledParameter → Definition
parameter_definition p = record { name = p.name; is_block = false }

-- an instruction defines a register if a name is spelled for it, or if it has a value
abbrev pub defines_register : (ℕ → Bool) → SpelledInstruction → Bool
defines_register void i = is_some i.result || has_value void i.operation

abbrev pub result_definitions : (ℕ → Bool) → SpelledInstruction → List Definition
result_definitions void i = if defines_register void i then record { name = i.result; is_block = false } ∷ [] else []

-- the instructions of a block
abbrev pub instructions_of : List SpelledInstruction → SpelledBlock → List SpelledInstruction
instructions_of instructions b = take b.count (drop b.first instructions)

-- a block, and the results in it
abbrev pub block_definitions : (ℕ → Bool) → List SpelledInstruction → SpelledBlock → List Definition
block_definitions void instructions b =
    record { name = b.label; is_block = true } ∷ flat_map (result_definitions void) (instructions_of instructions b)

-- all that a function defines
abbrev pub definitions : (ℕ → Bool) → List SpelledInstruction → List SpelledParameter → List SpelledBlock → List Definition
definitions void instructions parameters blocks = map parameter_definition parameters ++ flat_map (block_definitions void instructions) blocks

-- ---- names

-- what is written of a name: a label without its colon, a local without its `%`
abbrev pub written_text : Bool → List ℕ → List ℕ
written_text true bytes = take (length bytes - 1) bytes
written_text false bytes = drop 1 bytes

abbrev pub written : List ℕ → Bool → Token → List ℕ
written source is_block token = written_text is_block (bytes_of source token)

-- the key of a definition's name: what two names share exactly if they are one. Without a name it is that of the counter
abbrev pub definition_key : List ℕ → (counter : List ℕ) → Bool → Option Token → List ℕ
definition_key source counter is_block None = reverse counter
definition_key source counter is_block (Some token) = name_key (written source is_block token)

-- the counter after a name: after a number it is one more than the number
abbrev pub counter_after_name : (counter text : List ℕ) → List ℕ
counter_after_name counter text = if is_number text then next (low_digits text) else counter

-- the counter after a definition: one without a name took the next number
abbrev pub counter_after : List ℕ → (counter : List ℕ) → Bool → Option Token → List ℕ
counter_after source counter is_block None = next counter
counter_after source counter is_block (Some token) = counter_after_name counter (written source is_block token)

-- the keys of definitions, from this counter on
abbrev pub keys_from : List ℕ → (counter : List ℕ) → List Definition → List (List ℕ)
keys_from source counter [] = []
keys_from source counter (d ∷ rest) =
    definition_key source counter d.is_block d.name ∷ keys_from source (counter_after source counter d.is_block d.name) rest

-- the keys of all definitions of a function: the counter begins at 0
abbrev pub definition_keys : List ℕ → List Definition → List (List ℕ)
definition_keys source defined = keys_from source [] defined
