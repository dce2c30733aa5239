-- The type rules of a module (LLVM Language Reference, "Type System", "Instruction Reference"): the first fault of a type, by
-- its place in the text.
use Rattle.std.specs.Prelude.{◌≡◌, ℕ, List, [], ◌∷◌, Bool, true, false, not, ◌&&◌, ◌||◌, Option, None, Some, Result, Ok, Err, is_none}
use Rattle.std.specs.List.{list_any, list_all}
use Rattle.ir_core.specs.declared.types.IrType.{IrType}
use Rattle.ir_core.specs.declared.types.IrType.TheVariants.{Void, Int, Ptr, Array, Struct, Opaque, Pair}
use Rattle.ir_core.specs.declared.operations.Op.{Op}
use Rattle.ir_core.specs.declared.operations.Op.TheVariants as op
use Rattle.ir_core.specs.declared.faults.Fault.TheVariants.{BadType}
use Rattle.ir_core.specs.declared.refusals.Place.{Place}
use Rattle.ir_core.specs.declared.refusals.Refusal.{Refusal}
use Rattle.ir_core.specs.declared.ir_module.Declare.{Declare}
use Rattle.ir_core.specs.declared.ir_module.Function.{Function}
use Rattle.ir_core.specs.declared.ir_module.GlobalVar.{GlobalVar}
use Rattle.ir_core.specs.declared.ir_module.Inst.{Inst}
use Rattle.ir_core.specs.declared.ir_module.Module.{Module}
use Rattle.ir_core.specs.Layout.{has_size_of}
use Rattle.ir_core.specs.NumberTypes.{type_of}
use Rattle.ir_core.specs.Operations.{is_value_type, is_number_type, given_type}
use Rattle.ir_core.specs.Progress.{is_loop}
use Rattle.ir_check_types.specs.Order.{earlier, first_among, unless}
use Rattle.ir_check_types.specs.Operands.{is_same, typed_fault}
use Rattle.ir_check_types.specs.Instructions.{binary_fault, compare_fault, cast_fault, select_fault, freeze_fault, phi_fault, alloca_fault, load_fault, store_fault, address_fault, rmw_fault, exchange_fault, part_fault, switch_fault, return_fault}
use Rattle.ir_check_types.specs.Calls.{parameter_types, call_fault, outside_call_fault}
use Rattle.ir_check_types.specs.Signatures.{lib_result, lib_parameters, is_lifetime}

-- ---- instructions

-- the rules of an operation, whose instruction is at a place
abbrev pub operation_fault : Module → Function → Place → Op → Option Refusal
operation_fault m f place (op.Binary kind a b) = binary_fault m f place a b
operation_fault m f place (op.Icmp pred a b) = compare_fault m f a b
operation_fault m f place (op.Cast kind a to) = cast_fault m f place kind a to
operation_fault m f place (op.Select cond a b) = select_fault m f place cond a b
operation_fault m f place (op.Freeze a) = freeze_fault m f place a
operation_fault m f place (op.Phi ty entries) = phi_fault m f place ty entries
operation_fault m f place (op.Alloca index ty count) = alloca_fault m f place ty count
operation_fault m f place (op.Load ty at align) = load_fault m f place ty at
operation_fault m f place (op.Store value at align) = store_fault m f place value at
operation_fault m f place (op.Gep ty base indices) = address_fault m f place ty base indices
operation_fault m f place op.Fence = None
operation_fault m f place (op.Rmw kind at value align) = rmw_fault m f place at value
operation_fault m f place (op.CmpXchg at expected new align) = exchange_fault m f place at expected new
operation_fault m f place (op.ExtractValue pair part) = part_fault m f place pair part
operation_fault m f place (op.Call func result args) = call_fault m f place func result args
operation_fault m f place (op.CallLib declare result args start) = outside_call_fault m f place declare result args start
operation_fault m f place (op.Br block) = None
operation_fault m f place (op.BrIf cond yes_block no_block) = typed_fault m f (Int 1) cond
operation_fault m f place (op.Switch on other cases) = switch_fault m f on cases
operation_fault m f place (op.Ret value) = return_fault m f place value
operation_fault m f place op.Unreachable = None

-- only what gives a value has a name for it
abbrev pub name_fault : Module → Inst → Option Refusal
name_fault m inst = unless (is_none inst.result || is_value_type (given_type m inst.op)) BadType inst.place

abbrev pub instruction_fault : Module → Function → Inst → Option Refusal
instruction_fault m f inst = earlier (name_fault m inst) (operation_fault m f inst.place inst.op)

abbrev pub instructions_fault : Module → Function → List Inst → Option Refusal
instructions_fault m f insts = first_among (instruction_fault m f) insts

-- ---- functions, declarations and variables

-- a function returns nothing, an integer or a pointer
abbrev pub is_result : IrType → Bool
is_result Void = true
is_result (Int width) = true
is_result Ptr = true
is_result (Array count item) = false
is_result (Struct first count packed) = false
is_result Opaque = false
is_result (Pair width) = false

-- its parameters are integers and pointers
abbrev pub are_simple : Module → (types : List ℕ) → Bool
are_simple m types = list_all (λ (ty : ℕ). is_number_type (type_of m ty)) types

abbrev pub has_simple_types : Module → Function → Bool
has_simple_types m f = is_result (type_of m f.result) && are_simple m (parameter_types f)

abbrev pub function_fault : Module → Function → Option Refusal
function_fault m f = earlier (unless (has_simple_types m f) BadType f.place) (instructions_fault m f f.insts)

-- types by number are these
abbrev pub are_types : Module → (numbers : List ℕ) → List IrType → Bool
are_types m [] [] = true
are_types m [] (type ∷ types) = false
are_types m (ty ∷ numbers) [] = false
are_types m (ty ∷ numbers) (type ∷ types) = is_same (type_of m ty) type && are_types m numbers types

-- a known function is declared with its types
abbrev pub has_parameters : Module → Declare → Bool
has_parameters m d =
    are_types m d.params (lib_parameters d.lib) || is_lifetime d.lib && are_types m d.params (Int 64 ∷ lib_parameters d.lib)

abbrev pub declare_fault : Module → Declare → Option Refusal
declare_fault m d = unless (is_same (type_of m d.result) (lib_result d.lib) && has_parameters m d) BadType d.place

-- a variable's type has a size, and its first value is one of the type
abbrev pub global_fault : Module → GlobalVar → Option Refusal
global_fault m g = unless (g.fits && has_size_of m.types m.fields g.ty) BadType g.place

-- ---- modules

-- no type holds itself
abbrev pub start_of_text : Place
start_of_text = record { line = 1; column = 1 }

abbrev pub loop_fault : Module → Option Refusal
loop_fault m = unless (not (list_any is_loop m.layouts)) BadType start_of_text

-- the first fault of a type
abbrev pub type_fault : Module → Option Refusal
type_fault m =
    earlier (loop_fault m)
    (earlier (first_among (global_fault m) m.globals)
    (earlier (first_among (declare_fault m) m.declares) (first_among (function_fault m) m.functions)))

-- what checking the types of a module returns: nothing, or the refusal for its first fault
abbrev pub IsTypeCheck : Module → Result (Unit {0}) Refusal → Type 0
IsTypeCheck m (Ok done) = type_fault m ≡ None
IsTypeCheck m (Err refusal) = type_fault m ≡ Some refusal
