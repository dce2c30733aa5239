-- A function looks at no class of a type: its constants spell addresses and integers alone.
use Rattle.std.proofs.Common.{◌≡◌, ℕ, ◌+◌, if◌then◌else◌, List, [], ◌∷◌, ◌++◌, map, take, drop, length, slice_get, refl, ap, option_map, Option, Some, None}
use Rattle.ir_core.specs.declared.operands.StartArg.{StartArg}
use Rattle.ir_core.specs.declared.operations.Op.TheVariants as op
use Rattle.ir_core.specs.declared.ir_module.Module.{Module}
use Rattle.ir_core.specs.declared.token.Token.{Token}
use Rattle.ir_core.specs.ResolvedBodies.{value_count}
use Rattle.ir_grammar.specs.declared.spelled.SpelledConstant.{SpelledConstant}
use Rattle.ir_grammar.specs.declared.spelled_bodies.SpelledOperand.{SpelledOperand}
use Rattle.ir_grammar.specs.declared.spelled_bodies.SpelledOperand.TheVariants as operands
use Rattle.ir_grammar.specs.declared.spelled_bodies.TypedOperand.{TypedOperand}
use Rattle.ir_grammar.specs.declared.spelled_bodies.SpelledIncoming.{SpelledIncoming}
use Rattle.ir_grammar.specs.declared.spelled_bodies.SpelledCase.{SpelledCase}
use Rattle.ir_grammar.specs.declared.spelled_bodies.SpelledOperation.{SpelledOperation}
use Rattle.ir_grammar.specs.declared.spelled_bodies.SpelledOperation.TheVariants as operations
use Rattle.ir_grammar.specs.declared.spelled_bodies.SpelledInstruction.{SpelledInstruction}
use Rattle.ir_grammar.specs.Grammar.{nesting_limit}
use Rattle.ir_first_values.specs.Tables.{Tables, type_at}
use Rattle.ir_first_values.specs.Addresses.{if_there}
use Rattle.ir_first_values.specs.Operands.{typed_operand, constant_operand}
use Rattle.ir_body_names.specs.BodyFaults.{Surroundings}
use Rattle.ir_functions.specs.Operators.{binary_operator, predicate, cast_operator, rmw_operator}
use Rattle.ir_functions.specs.Scope.{Scope, type_number, local_number, placed_constant, placed, typed, typed_row, phi_entry, switch_case}
use Rattle.ir_functions.specs.Instructions.{token_bytes, pair_part, alignment, atomic_alignment, defined_function, declared_function, start_of, arguments_beside, call_of, bit_type, pointer_type, pair_type, operation, has_register, result_of, debug_location, first_token}
use Rattle.ir_functions.specs.Functions.{Spelled, scope_of, is_variable, instructions_from, variable_size, made_sizes, variable_sizes, all_instructions, function_by, function_of}
use Rattle.one_module.proofs.Classes.{with_classes, one_address}

-- what a function is resolved by, with other classes
abbrev with_classes_in : Scope → List ℕ → Scope
with_classes_in s c = record s { tables = with_classes s.tables c }

-- ---- operands

operand_same : (t : Tables) (c d : List ℕ) (ty k : ℕ) → constant_operand (with_classes t c) ty k ≡ constant_operand (with_classes t d) ty k
operand_same t c d ty k = λ i. if_there (slice_get t.constants k) (λ (constant : SpelledConstant). typed_operand (one_address nesting_limit t c d k i) constant (type_at t ty))

placed_same : (s : Scope) (c d : List ℕ) (ty : ℕ) (x : SpelledOperand) → placed (with_classes_in s c) ty x ≡ placed (with_classes_in s d) ty x
placed_same s c d ty (operands.Register name) = refl
placed_same s c d ty (operands.Constant first number) = ap (placed_constant ty first.place) (operand_same s.tables c d ty number)

typed_same : (s : Scope) (c d : List ℕ) (x : TypedOperand) → typed (with_classes_in s c) x ≡ typed (with_classes_in s d) x
typed_same s c d x = placed_same s c d (type_number s x.ty) x.value

row_same : (s : Scope) (c d : List ℕ) (xs : List TypedOperand) → typed_row (with_classes_in s c) xs ≡ typed_row (with_classes_in s d) xs
row_same s c d [] = refl
row_same s c d (x ∷ xs) = λ i. typed_same s c d x i ∷ row_same s c d xs i

entries_same : (s : Scope) (c d : List ℕ) (ty : ℕ) (xs : List SpelledIncoming) → map (phi_entry (with_classes_in s c) ty) xs ≡ map (phi_entry (with_classes_in s d) ty) xs
entries_same s c d ty [] = refl
entries_same s c d ty (x ∷ xs) = λ i. record { value = placed_same s c d ty x.value i; block = local_number s x.block } ∷ entries_same s c d ty xs i

cases_same : (s : Scope) (c d : List ℕ) (xs : List SpelledCase) → map (switch_case (with_classes_in s c)) xs ≡ map (switch_case (with_classes_in s d)) xs
cases_same s c d [] = refl
cases_same s c d (x ∷ xs) = λ i. record { value = typed_same s c d x.value i; block = local_number s x.block } ∷ cases_same s c d xs i

count_same : (s : Scope) (c d : List ℕ) (x : Option TypedOperand) → option_map (typed (with_classes_in s c)) x ≡ option_map (typed (with_classes_in s d)) x
count_same s c d None = refl
count_same s c d (Some x) = ap Some (typed_same s c d x)

result_same : (s : Scope) (c d : List ℕ) (ty : ℕ) (x : Option SpelledOperand) → option_map (placed (with_classes_in s c) ty) x ≡ option_map (placed (with_classes_in s d) ty) x
result_same s c d ty None = refl
result_same s c d ty (Some x) = ap Some (placed_same s c d ty x)

-- ---- instructions

call_same : (s : Scope) (c d : List ℕ) (result : ℕ) (xs : List TypedOperand) (defined declared : Option ℕ)
    → call_of (with_classes_in s c) result xs defined declared ≡ call_of (with_classes_in s d) result xs defined declared
call_same s c d result xs (Some func) declared = ap (op.Call func result) (row_same s c d xs)
call_same s c d result xs None None = refl
call_same s c d result xs None (Some declare) =
    let start : Option StartArg = start_of s (slice_get s.built.declares declare) xs in
    ap (λ row. op.CallLib declare result row start) (row_same s c d (arguments_beside start xs))

operation_same : (s : Scope) (c d : List ℕ) (v : ℕ) (word : Token) (o : SpelledOperation) → operation (with_classes_in s c) v word o ≡ operation (with_classes_in s d) v word o
operation_same s c d v word (operations.Binary a b) = λ i. op.Binary (binary_operator (token_bytes s word)) (typed_same s c d a i) (placed_same s c d (type_number s a.ty) b i)
operation_same s c d v word (operations.Icmp p a b) = λ i. op.Icmp (predicate (token_bytes s p)) (typed_same s c d a i) (placed_same s c d (type_number s a.ty) b i)
operation_same s c d v word (operations.Cast a to) = λ i. op.Cast (cast_operator (token_bytes s word)) (typed_same s c d a i) (type_number s to)
operation_same s c d v word (operations.Freeze a) = λ i. op.Freeze (typed_same s c d a i)
operation_same s c d v word (operations.Select condition a b) = λ i. op.Select (placed_same s c d (bit_type s) condition i) (typed_same s c d a i) (typed_same s c d b i)
operation_same s c d v word (operations.Phi ty first count) = ap (op.Phi (type_number s ty)) (entries_same s c d (type_number s ty) (take count (drop first s.names.bodies.incoming)))
operation_same s c d v word (operations.Alloca ty count stated) = ap (op.Alloca v (type_number s ty)) (count_same s c d count)
operation_same s c d v word (operations.Load ty pointer stated) = λ i. op.Load (type_number s ty) (placed_same s c d (pointer_type s) pointer i) (alignment s (type_number s ty) stated)
operation_same s c d v word (operations.Store value pointer stated) =
    λ i. op.Store (typed_same s c d value i) (placed_same s c d (pointer_type s) pointer i) (alignment s (type_number s value.ty) stated)
operation_same s c d v word (operations.GetElementPtr of base first count) =
    λ i. op.Gep (type_number s of) (placed_same s c d (pointer_type s) base i) (row_same s c d (take count (drop first s.names.bodies.operands)) i)
operation_same s c d v word operations.Fence = refl
operation_same s c d v word (operations.AtomicRmw operator pointer value stated) =
    λ i. op.Rmw (rmw_operator (token_bytes s operator)) (placed_same s c d (pointer_type s) pointer i) (typed_same s c d value i) (atomic_alignment s (type_number s value.ty) stated)
operation_same s c d v word (operations.CmpXchg pointer expected new stated) =
    λ i. op.CmpXchg (placed_same s c d (pointer_type s) pointer i) (typed_same s c d expected i) (typed_same s c d new i) (atomic_alignment s (type_number s new.ty) stated)
operation_same s c d v word (operations.ExtractValue of value part) = λ i. op.ExtractValue (placed_same s c d (pair_type s of) value i) (pair_part (token_bytes s part))
operation_same s c d v word (operations.Call name result first count) =
    call_same s c d (type_number s result) (take count (drop first s.names.bodies.operands)) (defined_function s name) (declared_function s name)
operation_same s c d v word (operations.Return ty value) = ap op.Ret (result_same s c d (type_number s ty) value)
operation_same s c d v word (operations.Jump block) = refl
operation_same s c d v word (operations.Branch condition yes_block no_block) =
    λ i. op.BrIf (placed_same s c d (bit_type s) condition i) (local_number s yes_block) (local_number s no_block)
operation_same s c d v word (operations.Switch value other first count) =
    λ i. op.Switch (typed_same s c d value i) (local_number s other) (cases_same s c d (take count (drop first s.names.bodies.cases)) i)
operation_same s c d v word operations.Unreachable = refl

instructions_same : (s : Scope) (c d : List ℕ) (r v : ℕ) (is : List SpelledInstruction) → instructions_from (with_classes_in s c) r v is ≡ instructions_from (with_classes_in s d) r v is
instructions_same s c d r v [] = refl
instructions_same s c d r v (x ∷ rest) =
    λ i. record {
      op = operation_same s c d v x.word x.operation i;
      result = result_of s r x;
      dbg = debug_location (with_classes_in s c) (take x.count (drop x.first s.names.bodies.attachments));
      place = (first_token x).place;
    } ∷ instructions_same s c d (if has_register s x then r + 1 else r) (if is_variable x.operation then v + 1 else v) rest i

-- ---- variables

made_same : (s : Scope) (c d : List ℕ) (o : SpelledOperation) → made_sizes (with_classes_in s c) o ≡ made_sizes (with_classes_in s d) o
made_same s c d (operations.Alloca ty count stated) = ap (λ x. variable_size s (value_count x) (type_number s ty) ∷ []) (count_same s c d count)
made_same s c d o = refl

sizes_same : (s : Scope) (c d : List ℕ) (is : List SpelledInstruction) → variable_sizes (with_classes_in s c) is ≡ variable_sizes (with_classes_in s d) is
sizes_same s c d [] = refl
sizes_same s c d (x ∷ rest) = λ i. made_same s c d x.operation i ++ sizes_same s c d rest i

-- ---- functions

function_by_same : (s : Scope) (c d : List ℕ) (f : Spelled) (is : List SpelledInstruction) → function_by (with_classes_in s c) f is ≡ function_by (with_classes_in s d) f is
function_by_same s c d f is =
    λ i. record (function_by (with_classes_in s c) f is) {
      allocas = sizes_same s c d is i;
      insts = instructions_same s c d (length f.parameters) 0 is i;
    }

-- the functions are the same by any two lists of classes
pub one_list_of_functions : (names : Surroundings) (t : Tables) (c d : List ℕ) (m : Module) (fs : List Spelled)
    → map (function_of names (with_classes t c) m) fs ≡ map (function_of names (with_classes t d) m) fs
one_list_of_functions names t c d m [] = refl
one_list_of_functions names t c d m (f ∷ rest) =
    λ i. function_by_same (scope_of names t m f) c d f (all_instructions names.bodies.instructions f.blocks) i ∷ one_list_of_functions names t c d m rest i
