-- Which constants may name a function: the third argument of a call of the declared function that starts a thread (POSIX,
-- "pthread_create"), and the bases of an address that stands there.
use Rattle.std.specs.Prelude.{ℕ, zero, suc, List, [], ◌∷◌, take, drop, length, replicate, slice_get, slice_set, Bool, true, false, if◌then◌else◌, codes, Option, None, Some}
use Rattle.std.specs.Str.{bytes_eq}
use Rattle.ir_core.specs.declared.token.Token.{Token}
use Rattle.ir_core.specs.Tokens.{bytes_of}
use Rattle.ir_text.specs.Names.{global_name}
use Rattle.ir_grammar.specs.declared.spelled.SpelledConstant.{SpelledConstant}
use Rattle.ir_grammar.specs.declared.spelled.SpelledConstant.TheVariants.{Address}
use Rattle.ir_grammar.specs.declared.spelled.SpelledItem.{SpelledItem}
use Rattle.ir_grammar.specs.declared.spelled.SpelledItem.TheVariants.{Declare}
use Rattle.ir_grammar.specs.declared.spelled_bodies.SpelledOperand.{SpelledOperand}
use Rattle.ir_grammar.specs.declared.spelled_bodies.SpelledOperand.TheVariants as operands
use Rattle.ir_grammar.specs.declared.spelled_bodies.TypedOperand.{TypedOperand}
use Rattle.ir_grammar.specs.declared.spelled_bodies.SpelledInstruction.{SpelledInstruction}
use Rattle.ir_grammar.specs.declared.spelled_bodies.SpelledOperation.{SpelledOperation}
use Rattle.ir_grammar.specs.declared.spelled_bodies.SpelledOperation.TheVariants as operations
use Rattle.ir_grammar.specs.Grammar.{nesting_limit}
use Rattle.ir_grammar.specs.Spelled.{Store}
use Rattle.ir_names.specs.Keys.{global_key, meant}

-- the item declares a function
abbrev pub is_declared : Option SpelledItem → Bool
is_declared (Some (Declare name result first count)) = true
is_declared other = false

-- the token names the function that starts a thread
abbrev pub names_thread_start : List ℕ → Token → Bool
names_thread_start source name = bytes_eq (global_name (bytes_of source name)) (codes "pthread_create")

-- a callee is that function, and the module declares it
abbrev pub starts_threads : List ℕ → List (List ℕ) → List SpelledItem → Token → Bool
starts_threads source keys items name =
    if names_thread_start source name then is_declared (meant keys items (global_key source name)) else false

-- the number of the constant that an operand is, or none
abbrev pub operand_constant : SpelledOperand → Option ℕ
operand_constant (operands.Register name) = None
operand_constant (operands.Constant first number) = Some number

-- the same of an argument, where it is there
abbrev pub argument_constant : Option TypedOperand → Option ℕ
argument_constant None = None
argument_constant (Some x) = operand_constant x.value

-- the number of the constant that a call of this function takes for the function to start, by its arguments, or none
abbrev pub call_start : List ℕ → List (List ℕ) → List SpelledItem → Token → List TypedOperand → Option ℕ
call_start source keys items name arguments =
    if starts_threads source keys items name then argument_constant (slice_get arguments 2) else None

-- the same of what an instruction does
abbrev pub start_constant : List ℕ → List (List ℕ) → List SpelledItem → List TypedOperand → SpelledOperation → Option ℕ
start_constant source keys items args (operations.Call name result first count) = call_start source keys items name (take count (drop first args))
start_constant source keys items args other = None

-- the base of an address, or none
abbrev pub base_of : Option SpelledConstant → Option ℕ
base_of (Some (Address ty base first count)) = Some base
base_of other = None

-- marks by this rule for the number that is there
abbrev pub marked_if : (List Bool → ℕ → List Bool) → List Bool → Option ℕ → List Bool
marked_if rule marks None = marks
marked_if rule marks (Some number) = rule marks number

-- the marks, with those of the constant with this number and of the bases below it, which are so many levels at most
unfoldable pub marked : ℕ → List SpelledConstant → List Bool → ℕ → List Bool
marked zero constants marks number = slice_set marks number true
marked (suc levels) constants marks number = marked_if (marked levels constants) (slice_set marks number true) (base_of (slice_get constants number))

-- the marks, with those of what these instructions start
abbrev pub marked_by : List ℕ → List (List ℕ) → List SpelledItem → List TypedOperand → List SpelledConstant → List Bool → List SpelledInstruction → List Bool
marked_by source keys items args constants marks [] = marks
marked_by source keys items args constants marks (x ∷ rest) =
    marked_by source keys items args constants (marked_if (marked nesting_limit constants) marks (start_constant source keys items args x.operation)) rest

-- one a constant: it may name a function
abbrev pub start_marks : List ℕ → List (List ℕ) → List SpelledItem → Store → List Bool
start_marks source keys items store =
    marked_by source keys items store.bodies.operands store.constants (replicate (length store.constants) false) store.bodies.instructions
