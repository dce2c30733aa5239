-- What the instructions of a function do, with their names resolved (LLVM Language Reference, "Instruction Reference").
use Rattle.std.specs.Prelude.{ℕ, ◌+◌, ◌==◌, ◌||◌, Bool, true, false, if◌then◌else◌, List, [], ◌∷◌, ◌++◌, map, take, drop, slice_get, codes, Option, Some, None, is_some, unwrap_or}
use Rattle.std.specs.Option.{option_map}
use Rattle.std.specs.Str.{bytes_eq}
use Rattle.ir_core.specs.declared.token.Token.{Token}
use Rattle.ir_core.specs.declared.lib_functions.Lib.{Lib}
use Rattle.ir_core.specs.declared.lib_functions.Lib.TheVariants.{PthreadCreate}
use Rattle.ir_core.specs.declared.operands.Placed.{Placed}
use Rattle.ir_core.specs.declared.operands.StartArg.{StartArg}
use Rattle.ir_core.specs.declared.operations.Op.{Op}
use Rattle.ir_core.specs.declared.operations.Op.TheVariants as op
use Rattle.ir_core.specs.declared.ir_module.DbgRef.{DbgRef}
use Rattle.ir_core.specs.declared.ir_module.Declare.{Declare}
use Rattle.ir_core.specs.declared.ir_module.Inst.{Inst}
use Rattle.ir_core.specs.Tokens.{bytes_of}
use Rattle.ir_core.specs.Layout.{layout_at, layout_align}
use Rattle.ir_core.specs.NumberTypes.{type_of, access_size}
use Rattle.ir_text.specs.TokenText.{significant, small_number}
use Rattle.ir_grammar.specs.declared.spelled.SpelledConstant.{SpelledConstant}
use Rattle.ir_grammar.specs.declared.spelled.SpelledConstant.TheVariants as constants
use Rattle.ir_grammar.specs.declared.spelled_bodies.SpelledOperand.{SpelledOperand}
use Rattle.ir_grammar.specs.declared.spelled_bodies.SpelledOperand.TheVariants as operands
use Rattle.ir_grammar.specs.declared.spelled_bodies.TypedOperand.{TypedOperand}
use Rattle.ir_grammar.specs.declared.spelled_bodies.SpelledAttachment.{SpelledAttachment}
use Rattle.ir_grammar.specs.declared.spelled_bodies.SpelledOperation.{SpelledOperation}
use Rattle.ir_grammar.specs.declared.spelled_bodies.SpelledOperation.TheVariants as operations
use Rattle.ir_grammar.specs.declared.spelled_bodies.SpelledInstruction.{SpelledInstruction}
use Rattle.ir_names.specs.Keys.{global_key, first_with}
use Rattle.ir_body_names.specs.Definitions.{is_void, defines_register}
use Rattle.ir_body_names.specs.Uses.{is_debug_location}
use Rattle.ir_body_names.specs.BodyFaults.{node_place}
use Rattle.ir_functions.specs.Given.{pointer_number, void_number, integer_number, pair_of, part_of}
use Rattle.ir_functions.specs.Operators.{binary_operator, predicate, cast_operator, rmw_operator}
use Rattle.ir_functions.specs.Scope.{Scope, spelled_types, type_number, number_by, local_number, placed, typed, typed_row, phi_entry, switch_case}

-- ---- tokens

-- the bytes of a token
abbrev pub token_bytes : Scope → Token → List ℕ
token_bytes s token = bytes_of s.names.source token

-- an integer without its sign
abbrev pub without_sign : List ℕ → List ℕ
without_sign [] = []
without_sign (b ∷ digits) = if b == 45 then digits else b ∷ digits

-- the part of a pair that an integer names: 0 or 1
abbrev pub pair_part : List ℕ → Option ℕ
pair_part text =
    if bytes_eq (significant (without_sign text)) [] then Some 0 else (if bytes_eq (significant text) (codes "1") then Some 1 else None)

-- ---- alignments, in bytes

-- the one that is stated, or else this one
abbrev pub alignment_or : Scope → ℕ → Option Token → ℕ
alignment_or s other None = other
alignment_or s other (Some stated) = small_number (token_bytes s stated)

-- that of a load or store: by default the alignment of the type
abbrev pub alignment : Scope → (ty : ℕ) → Option Token → ℕ
alignment s ty stated = alignment_or s (layout_align (layout_at s.built.layouts ty)) stated

-- that of an atomic instruction: by default the size of the type
abbrev pub atomic_alignment : Scope → (ty : ℕ) → Option Token → ℕ
atomic_alignment s ty stated = alignment_or s (access_size (type_of s.built ty)) stated

-- ---- calls

-- the number of a function that is defined by this name, and of one that is declared
abbrev pub defined_function : Scope → Token → Option ℕ
defined_function s name = first_with (global_key s.names.source name) s.names.functions

abbrev pub declared_function : Scope → Token → Option ℕ
declared_function s name = first_with (global_key s.names.source name) s.names.declares

abbrev pub is_pthread_create : Lib → Bool
is_pthread_create PthreadCreate = true
is_pthread_create other = false

-- the declared function starts a thread
abbrev pub is_thread_start : Option Declare → Bool
is_thread_start None = false
is_thread_start (Some d) = is_pthread_create d.lib

-- the defined function that a constant names
abbrev pub named_function : Scope → Option SpelledConstant → Option ℕ
named_function s (Some (constants.Global name)) = defined_function s name
named_function s other = None

-- a start function, by its number
abbrev pub start_at : (ty : ℕ) → Token → Option ℕ → Option StartArg
start_at ty first None = None
start_at ty first (Some func) = Some (record { func = func; ty = ty; place = first.place })

-- the defined function that an argument names
abbrev pub start_operand : Scope → (ty : ℕ) → SpelledOperand → Option StartArg
start_operand s ty (operands.Register name) = None
start_operand s ty (operands.Constant first number) = start_at ty first (named_function s (slice_get s.tables.constants number))

abbrev pub start_argument : Scope → Option TypedOperand → Option StartArg
start_argument s None = None
start_argument s (Some x) = start_operand s (type_number s x.ty) x.value

-- the start function of a call: what its third argument names, if the call starts a thread
abbrev pub start_of : Scope → Option Declare → List TypedOperand → Option StartArg
start_of s declare xs = if is_thread_start declare then start_argument s (slice_get xs 2) else None

-- the arguments of a call without that of the start function
abbrev pub arguments_beside : Option StartArg → List TypedOperand → List TypedOperand
arguments_beside None xs = xs
arguments_beside (Some start) xs = take 2 xs ++ drop 3 xs

-- a call of a declared function
abbrev pub library_call : Scope → (declare result : ℕ) → List TypedOperand → Option StartArg → Op
library_call s declare result xs start = op.CallLib declare result (typed_row s (arguments_beside start xs)) start

-- a call: of a defined function by the name, or else of a declared one
abbrev pub call_of : Scope → (result : ℕ) → List TypedOperand → (defined declared : Option ℕ) → Op
call_of s result xs (Some func) declared = op.Call func result (typed_row s xs)
call_of s result xs None None = op.Unreachable
call_of s result xs None (Some declare) = library_call s declare result xs (start_of s (slice_get s.built.declares declare) xs)

-- ---- what an instruction does

-- `i1`, and `ptr`
abbrev pub bit_type : Scope → ℕ
bit_type s = integer_number (spelled_types s) 1

abbrev pub pointer_type : Scope → ℕ
pointer_type s = pointer_number (spelled_types s)

-- the pair of a spelled type and an `i1`
abbrev pub pair_type : Scope → (spelled : ℕ) → ℕ
pair_type s ty = pair_of (spelled_types s) (slice_get s.tables.types (type_number s ty))

-- an instruction's word and what it spells; a variable has this number
abbrev pub operation : Scope → (variable : ℕ) → Token → SpelledOperation → Op
operation s v word (operations.Binary a b) = op.Binary (binary_operator (token_bytes s word)) (typed s a) (placed s (type_number s a.ty) b)
operation s v word (operations.Icmp p a b) = op.Icmp (predicate (token_bytes s p)) (typed s a) (placed s (type_number s a.ty) b)
operation s v word (operations.Cast a to) = op.Cast (cast_operator (token_bytes s word)) (typed s a) (type_number s to)
operation s v word (operations.Freeze a) = op.Freeze (typed s a)
operation s v word (operations.Select condition a b) = op.Select (placed s (bit_type s) condition) (typed s a) (typed s b)
operation s v word (operations.Phi ty first count) =
    op.Phi (type_number s ty) (map (phi_entry s (type_number s ty)) (take count (drop first s.names.bodies.incoming)))
operation s v word (operations.Alloca ty count stated) = op.Alloca v (type_number s ty) (option_map (typed s) count)
operation s v word (operations.Load ty pointer stated) =
    op.Load (type_number s ty) (placed s (pointer_type s) pointer) (alignment s (type_number s ty) stated)
operation s v word (operations.Store value pointer stated) =
    op.Store (typed s value) (placed s (pointer_type s) pointer) (alignment s (type_number s value.ty) stated)
operation s v word (operations.GetElementPtr of base first count) =
    op.Gep (type_number s of) (placed s (pointer_type s) base) (typed_row s (take count (drop first s.names.bodies.operands)))
operation s v word operations.Fence = op.Fence
operation s v word (operations.AtomicRmw operator pointer value stated) =
    op.Rmw (rmw_operator (token_bytes s operator)) (placed s (pointer_type s) pointer) (typed s value) (atomic_alignment s (type_number s value.ty) stated)
operation s v word (operations.CmpXchg pointer expected new stated) =
    op.CmpXchg (placed s (pointer_type s) pointer) (typed s expected) (typed s new) (atomic_alignment s (type_number s new.ty) stated)
operation s v word (operations.ExtractValue of value part) = op.ExtractValue (placed s (pair_type s of) value) (pair_part (token_bytes s part))
operation s v word (operations.Call name result first count) =
    call_of s (type_number s result) (take count (drop first s.names.bodies.operands)) (defined_function s name) (declared_function s name)
operation s v word (operations.Return ty value) = op.Ret (option_map (placed s (type_number s ty)) value)
operation s v word (operations.Jump block) = op.Br (local_number s block)
operation s v word (operations.Branch condition yes_block no_block) =
    op.BrIf (placed s (bit_type s) condition) (local_number s yes_block) (local_number s no_block)
operation s v word (operations.Switch value other first count) =
    op.Switch (typed s value) (local_number s other) (map (switch_case s) (take count (drop first s.names.bodies.cases)))
operation s v word operations.Unreachable = op.Unreachable

-- ---- what an instruction gives

-- the number of the type of its value, or that of `void`
abbrev pub value_type : Scope → SpelledOperation → ℕ
value_type s (operations.Binary a b) = type_number s a.ty
value_type s (operations.Icmp p a b) = bit_type s
value_type s (operations.Cast a to) = type_number s to
value_type s (operations.Freeze a) = type_number s a.ty
value_type s (operations.Select condition a b) = type_number s a.ty
value_type s (operations.Phi ty first count) = type_number s ty
value_type s (operations.Alloca ty count stated) = pointer_type s
value_type s (operations.Load ty pointer stated) = type_number s ty
value_type s (operations.GetElementPtr of base first count) = pointer_type s
value_type s (operations.AtomicRmw operator pointer value stated) = type_number s value.ty
value_type s (operations.CmpXchg pointer expected new stated) = pair_type s new.ty
value_type s (operations.ExtractValue of value part) =
    part_of (spelled_types s) (pair_part (token_bytes s part)) (slice_get s.tables.types (type_number s of))
value_type s (operations.Call name result first count) = type_number s result
value_type s other = void_number (spelled_types s)

-- it defines a register
abbrev pub has_register : Scope → SpelledInstruction → Bool
has_register s i = defines_register (is_void s.names.types s.names.numbers) i

-- ---- places

-- the debug location that an attachment names, by the number of its node
abbrev pub location_by : Token → Option ℕ → Option DbgRef
location_by node None = None
location_by node (Some k) = Some (record { node = k; place = node.place })

-- the first debug location among attachments
abbrev pub debug_location : Scope → List SpelledAttachment → Option DbgRef
debug_location s [] = None
debug_location s (a ∷ rest) =
    if is_debug_location s.names.source a.name then location_by a.node (node_place s.names.source s.names.nodes a.node) else debug_location s rest

-- the first token of an instruction: the name of its result, or else its word
abbrev pub first_token : SpelledInstruction → Token
first_token i = unwrap_or i.result i.word

-- the register with this number, if the instruction defines one
abbrev pub result_of : Scope → (register : ℕ) → SpelledInstruction → Option ℕ
result_of s r i = if has_register s i then Some r else None

-- an instruction, whose register and variable, if it has them, have these numbers
abbrev pub instruction : Scope → (register variable : ℕ) → SpelledInstruction → Inst
instruction s r v i = record {
  op = operation s v i.word i.operation;
  result = result_of s r i;
  dbg = debug_location s (take i.count (drop i.first s.names.bodies.attachments));
  place = (first_token i).place;
}
