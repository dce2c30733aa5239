-- The type rules of calls (LLVM Language Reference, "'call' Instruction"; POSIX, "pthread_create", "pthread_join").
use Rattle.std.specs.Prelude.{ℕ, ◌+◌, List, [], ◌∷◌, take, drop, length, slice_get, slice_index, Bool, true, false, ◌&&◌, ◌==◌, Option, None, Some}
use Rattle.ir_core.specs.declared.types.IrType.TheVariants.{Ptr}
use Rattle.ir_core.specs.declared.operands.Operand.{Operand}
use Rattle.ir_core.specs.declared.operands.Operand.TheVariants.{Reg, Int as Literal, Null, Global}
use Rattle.ir_core.specs.declared.operands.Placed.{Placed}
use Rattle.ir_core.specs.declared.operands.StartArg.{StartArg}
use Rattle.ir_core.specs.declared.lib_functions.Lib.{Lib}
use Rattle.ir_core.specs.declared.lib_functions.Lib.TheVariants.{PthreadCreate, PthreadJoin}
use Rattle.ir_core.specs.declared.faults.Fault.TheVariants.{BadType, Unsupported}
use Rattle.ir_core.specs.declared.refusals.Place.{Place}
use Rattle.ir_core.specs.declared.refusals.Refusal.{Refusal}
use Rattle.ir_core.specs.declared.ir_module.Declare.{Declare}
use Rattle.ir_core.specs.declared.ir_module.Function.{Function}
use Rattle.ir_core.specs.declared.ir_module.Module.{Module}
use Rattle.ir_core.specs.NumberTypes.{type_of}
use Rattle.ir_check_types.specs.Order.{earlier, unless}
use Rattle.ir_check_types.specs.Operands.{is_same, number_fault, typed_fault}

-- an argument is of the type that is asked for; one past the parameters needs a type of its own alone
abbrev pub argument_fault : Module → Function → (wanted : Option ℕ) → Placed → Option Refusal
argument_fault m f None arg = number_fault m f arg
argument_fault m f (Some ty) arg = typed_fault m f (type_of m ty) arg

-- arguments from the parameter with number i on, by the numbers of the parameters' types
abbrev pub arguments_fault : Module → Function → (types : List ℕ) → (i : ℕ) → (args : List Placed) → Option Refusal
arguments_fault m f types i [] = None
arguments_fault m f types i (arg ∷ args) = earlier (argument_fault m f (slice_get types i) arg) (arguments_fault m f types (i + 1) args)

-- the result that is spelled is that of the function
abbrev pub result_type_fault : Module → Place → (result wanted : ℕ) → Option Refusal
result_type_fault m place result wanted = unless (is_same (type_of m result) (type_of m wanted)) BadType place

-- there are as many arguments as parameters
abbrev pub count_of_arguments_fault : Place → (arguments parameters : ℕ) → Option Refusal
count_of_arguments_fault place arguments parameters = unless (arguments == parameters) BadType place

-- the numbers of the types of a function's parameters
abbrev pub parameter_types : Function → List ℕ
parameter_types f = take f.params f.regs

-- ---- calls of defined functions

abbrev pub callee_fault : Module → Function → Place → Option Function → (result : ℕ) → List Placed → Option Refusal
callee_fault m f place None result args = None
callee_fault m f place (Some callee) result args =
    earlier (result_type_fault m place result callee.result)
    (earlier (count_of_arguments_fault place (length args) callee.params) (arguments_fault m f (parameter_types callee) 0 args))

abbrev pub call_fault : Module → Function → Place → (func result : ℕ) → List Placed → Option Refusal
call_fault m f place func result args = callee_fault m f place (slice_get m.functions func) result args

-- ---- calls of functions of the outside

-- a task's attributes, and the place of its result, are null
abbrev pub is_null : Operand → Bool
is_null (Reg r) = false
is_null (Literal n) = false
is_null Null = true
is_null (Global global off) = false

abbrev pub second_fault : Place → List Placed → Option Refusal
second_fault place [] = None
second_fault place (first ∷ []) = None
second_fault place (first ∷ second ∷ others) = unless (is_null second.operand) Unsupported place

abbrev pub null_fault : Lib → Place → List Placed → Option Refusal
null_fault PthreadCreate place args = second_fault place args
null_fault PthreadJoin place args = second_fault place args
null_fault other place args = None

-- a task starts with a function that takes a pointer and returns one
abbrev pub can_start : Module → Option Function → Bool
can_start m None = false
can_start m (Some f) = is_same (type_of m f.result) Ptr && (f.params == 1 && is_same (type_of m (slice_index f.regs 0)) Ptr)

-- the third argument of `pthread_create` is such a function
abbrev pub third_fault : List Placed → Option Refusal
third_fault [] = None
third_fault (first ∷ []) = None
third_fault (first ∷ second ∷ []) = None
third_fault (first ∷ second ∷ third ∷ others) = unless false BadType third.place

abbrev pub start_fault : Module → Declare → List Placed → Option StartArg → Option Refusal
start_fault m d args None = third_fault args
start_fault m d args (Some start) =
    unless (is_same (type_of m start.ty) (type_of m (slice_index d.params 2)) && can_start m (slice_get m.functions start.func)) BadType start.place

-- a function that a task starts with is an argument of `pthread_create` alone
abbrev pub no_start_fault : Option StartArg → Option Refusal
no_start_fault None = None
no_start_fault (Some start) = unless false BadType start.place

abbrev pub task_fault : Module → Lib → Declare → List Placed → Option StartArg → Option Refusal
task_fault m PthreadCreate d args start = start_fault m d args start
task_fault m other d args start = no_start_fault start

-- the arguments that are listed: all but the start function
abbrev pub listed_fault : Module → Function → Declare → List Placed → Option StartArg → Option Refusal
listed_fault m f d args None = arguments_fault m f d.params 0 args
listed_fault m f d args (Some start) = earlier (arguments_fault m f d.params 0 (take 2 args)) (arguments_fault m f d.params 3 (drop 2 args))

abbrev pub started : Option StartArg → ℕ
started None = 0
started (Some start) = 1

abbrev pub declared_fault : Module → Function → Place → Option Declare → (result : ℕ) → List Placed → Option StartArg → Option Refusal
declared_fault m f place None result args start = None
declared_fault m f place (Some d) result args start =
    earlier (result_type_fault m place result d.result)
    (earlier (count_of_arguments_fault place (length args + started start) (length d.params))
    (earlier (null_fault d.lib place args)
    (earlier (listed_fault m f d args start) (task_fault m d.lib d args start))))

abbrev pub outside_call_fault : Module → Function → Place → (declare result : ℕ) → List Placed → Option StartArg → Option Refusal
outside_call_fault m f place declare result args start = declared_fault m f place (slice_get m.declares declare) result args start
