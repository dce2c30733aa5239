-- The type rules of instructions other than calls, one definition an instruction (LLVM Language Reference, "Instruction
-- Reference"). A broken rule of the instruction as a whole is a fault at the instruction, that of an operand is one at the
-- operand. Which types are taken, and at which of the two places a fault is, is this project's choice.
use Rattle.std.specs.Prelude.{ℕ, List, [], ◌∷◌, ◌++◌, Bool, true, false, not, ◌&&◌, ◌==◌, nat_lt, Option, None, Some, is_some}
use Rattle.std.specs.List.{list_any}
use Rattle.hw_base.specs.declared.operators.CastOp.{CastOp}
use Rattle.hw_base.specs.declared.operators.CastOp.TheVariants.{Trunc, ZExt, SExt}
use Rattle.ir_core.specs.declared.types.IrType.{IrType}
use Rattle.ir_core.specs.declared.types.IrType.TheVariants.{Void, Int, Ptr, Array, Struct, Pair}
use Rattle.ir_core.specs.declared.operands.Operand.{Operand}
use Rattle.ir_core.specs.declared.operands.Operand.TheVariants.{Reg, Int as Literal, Null, Global}
use Rattle.ir_core.specs.declared.operands.Placed.{Placed}
use Rattle.ir_core.specs.declared.operands.PhiEntry.{PhiEntry}
use Rattle.ir_core.specs.declared.operands.Case.{Case}
use Rattle.ir_core.specs.declared.faults.Fault.TheVariants.{BadType, Unsupported}
use Rattle.ir_core.specs.declared.refusals.Place.{Place}
use Rattle.ir_core.specs.declared.refusals.Refusal.{Refusal}
use Rattle.ir_core.specs.declared.ir_module.Function.{Function}
use Rattle.ir_core.specs.declared.ir_module.Module.{Module}
use Rattle.ir_core.specs.Layout.{has_size_of}
use Rattle.ir_core.specs.NumberTypes.{type_of, field_type, constant_number}
use Rattle.ir_core.specs.Operations.{is_number_type}
use Rattle.ir_core.specs.ResolvedBodies.{is_atomic_width}
use Rattle.ir_check_types.specs.Order.{earlier, first_among, unless}
use Rattle.ir_check_types.specs.Operands.{is_integer, is_same, is_typed, number_fault, integer_fault, typed_fault}

-- the type is one of an integer or a pointer, or there is a fault here
abbrev pub number_type_fault : Module → (ty : ℕ) → Place → Option Refusal
number_type_fault m ty place = unless (is_number_type (type_of m ty)) BadType place

-- two integers of one type; an integer is given
abbrev pub binary_fault : Module → Function → Place → (a b : Placed) → Option Refusal
binary_fault m f place a b = earlier (number_type_fault m a.ty place) (earlier (integer_fault m f a) (integer_fault m f b))

-- two integers or two pointers of one type
abbrev pub compare_fault : Module → Function → (a b : Placed) → Option Refusal
compare_fault m f a b = earlier (number_fault m f a) (typed_fault m f (type_of m a.ty) b)

-- `trunc` goes to a narrower integer, `zext` and `sext` to a wider one; what is no integer is a fault of its own
abbrev pub is_cast : CastOp → (from to : IrType) → Bool
is_cast Trunc (Int from) (Int to) = nat_lt to from
is_cast ZExt (Int from) (Int to) = nat_lt from to
is_cast SExt (Int from) (Int to) = nat_lt from to
is_cast kind from to = is_integer to

abbrev pub cast_fault : Module → Function → Place → CastOp → Placed → (to : ℕ) → Option Refusal
cast_fault m f place kind a to = earlier (unless (is_cast kind (type_of m a.ty) (type_of m to)) BadType place) (integer_fault m f a)

-- a bit, and two values of one type
abbrev pub select_fault : Module → Function → Place → (cond a b : Placed) → Option Refusal
select_fault m f place cond a b =
    earlier (number_type_fault m a.ty place)
    (earlier (typed_fault m f (Int 1) cond) (earlier (number_fault m f a) (typed_fault m f (type_of m a.ty) b)))

abbrev pub freeze_fault : Module → Function → Place → Placed → Option Refusal
freeze_fault m f place a = earlier (number_type_fault m a.ty place) (number_fault m f a)

-- the entries of a phi are values of a type
abbrev pub entries_fault : Module → Function → IrType → List PhiEntry → Option Refusal
entries_fault m f type entries = first_among (λ (entry : PhiEntry). typed_fault m f type entry.value) entries

abbrev pub phi_fault : Module → Function → Place → (ty : ℕ) → List PhiEntry → Option Refusal
phi_fault m f place ty entries =
    earlier (number_type_fault m ty place) (entries_fault m f (type_of m ty) entries)

-- a type with a size, and a count that is an integer
abbrev pub count_fault : Module → Function → Option Placed → Option Refusal
count_fault m f None = None
count_fault m f (Some count) = integer_fault m f count

abbrev pub sized_fault : Module → (ty : ℕ) → Place → Option Refusal
sized_fault m ty place = unless (has_size_of m.types m.fields ty) BadType place

abbrev pub alloca_fault : Module → Function → Place → (ty : ℕ) → Option Placed → Option Refusal
alloca_fault m f place ty count = earlier (sized_fault m ty place) (count_fault m f count)

abbrev pub load_fault : Module → Function → Place → (ty : ℕ) → Placed → Option Refusal
load_fault m f place ty at = earlier (number_type_fault m ty place) (typed_fault m f Ptr at)

abbrev pub store_fault : Module → Function → Place → (value at : Placed) → Option Refusal
store_fault m f place value at = earlier (number_type_fault m value.ty place) (earlier (number_fault m f value) (typed_fault m f Ptr at))

-- ---- addresses

-- the number of a field, if the index is a constant `i32` below the count of fields
abbrev pub is_constant : Operand → Bool
is_constant (Reg r) = false
is_constant (Literal n) = true
is_constant Null = true
is_constant (Global global off) = false

abbrev pub is_field_index : Module → (count : ℕ) → Placed → Bool
is_field_index m count index =
    is_same (type_of m index.ty) (Int 32) && (index.fits && (is_constant index.operand && nat_lt (constant_number index.operand) count))

-- an index into a type goes into its parts
abbrev pub is_step : Module → IrType → Placed → Bool
is_step m (Array count item) index = true
is_step m (Struct first count packed) index = is_field_index m count index
is_step m other index = false

-- the type that an index leads to
abbrev pub part_type : Module → IrType → Placed → IrType
part_type m (Array count item) index = type_of m item
part_type m (Struct first count packed) index = type_of m (field_type m first (constant_number index.operand))
part_type m other index = Void

-- an index into a type: an integer, and a step into the type's parts
abbrev pub step_fault : Module → Function → IrType → Placed → Option Refusal
step_fault m f type index = earlier (integer_fault m f index) (unless (is_step m type index) BadType index.place)

-- the indices after the first, each into the type that those before lead to
abbrev pub steps_fault : Module → Function → IrType → List Placed → Option Refusal
steps_fault m f type [] = None
steps_fault m f type (index ∷ indices) = earlier (step_fault m f type index) (steps_fault m f (part_type m type index) indices)

-- a type with indices needs a size
abbrev pub indices_fault : Module → Function → Place → (ty : ℕ) → List Placed → Option Refusal
indices_fault m f place ty [] = None
indices_fault m f place ty (index ∷ indices) =
    earlier (sized_fault m ty place) (earlier (integer_fault m f index) (steps_fault m f (type_of m ty) indices))

abbrev pub address_fault : Module → Function → Place → (ty : ℕ) → Placed → List Placed → Option Refusal
address_fault m f place ty base indices = earlier (typed_fault m f Ptr base) (indices_fault m f place ty indices)

-- ---- atomic instructions

-- an integer of 8, 16, 32 or 64 bits; another number isn't supported
abbrev pub atomic_fault : IrType → Place → Option Refusal
atomic_fault (Int width) place = unless (is_atomic_width width) Unsupported place
atomic_fault Ptr place = unless false Unsupported place
atomic_fault other place = unless false BadType place

abbrev pub rmw_fault : Module → Function → Place → (at value : Placed) → Option Refusal
rmw_fault m f place at value =
    earlier (atomic_fault (type_of m value.ty) place) (earlier (typed_fault m f Ptr at) (number_fault m f value))

abbrev pub exchange_fault : Module → Function → Place → (at expected new : Placed) → Option Refusal
exchange_fault m f place at expected new =
    earlier (atomic_fault (type_of m expected.ty) place)
    (earlier (typed_fault m f Ptr at) (earlier (number_fault m f expected) (typed_fault m f (type_of m expected.ty) new)))

-- ---- pairs

-- the first or second part of a pair
abbrev pub is_pair : IrType → Bool
is_pair (Pair width) = true
is_pair other = false

abbrev pub part_fault : Module → Function → Place → Placed → (part : Option ℕ) → Option Refusal
part_fault m f place pair part =
    earlier (unless (is_pair (type_of m pair.ty) && is_some part) BadType place) (unless (is_typed m f pair) BadType pair.place)

-- ---- switches

-- two constants are the same number
abbrev pub is_same_number : (a b : Operand) → Bool
is_same_number a b = constant_number a == constant_number b

-- a case before has the same number
abbrev pub is_taken : List Case → Case → Bool
is_taken before case = list_any (λ (other : Case). is_same_number other.value.operand case.value.operand) before

abbrev pub case_fault : Module → Function → IrType → List Case → Case → Option Refusal
case_fault m f type before case =
    earlier (typed_fault m f type case.value) (unless (not (is_taken before case)) BadType case.value.place)

-- the cases after these, each a constant of the type with a number that none before has
abbrev pub cases_fault : Module → Function → IrType → (before cases : List Case) → Option Refusal
cases_fault m f type before [] = None
cases_fault m f type before (case ∷ cases) =
    earlier (case_fault m f type before case) (cases_fault m f type (before ++ case ∷ []) cases)

abbrev pub switch_fault : Module → Function → Placed → List Case → Option Refusal
switch_fault m f on cases = earlier (integer_fault m f on) (cases_fault m f (type_of m on.ty) [] cases)

-- ---- returns

-- a function of type `void` returns nothing, and any other a value of its type
abbrev pub return_fault : Module → Function → Place → Option Placed → Option Refusal
return_fault m f place None = unless (is_same (type_of m f.result) Void) BadType place
return_fault m f place (Some value) =
    earlier (unless (is_same (type_of m value.ty) (type_of m f.result)) BadType place) (number_fault m f value)
