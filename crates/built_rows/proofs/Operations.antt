-- The machine runs the instruction of each operation that is built, in a module that is accepted.
use Rattle.std.proofs.Common.{◌≡◌, ℕ, zero, suc, ◌<◌, ◌^◌, true, List, [], ◌∷◌, length, slice_get, Option, Some, None, refl, sym, subst, arith}
use Rattle.std.proofs.lemmas.List.{length-map}
use Rattle.std.specs.List.{All}
use Rattle.std.proofs.lemmas.List.Elements.{All-nil, All-cons, All-head, All-tail}
use Rattle.std.specs.Option.{IfSome}
use Rattle.ir_core.specs.declared.faults.Fault.TheVariants.{BadType}
use Rattle.ir_core.specs.declared.types.IrType.{IrType}
use Rattle.ir_core.specs.declared.types.IrType.TheVariants.{Void, Int, Ptr, Array, Struct, Opaque, Pair}
use Rattle.ir_core.specs.IndexSteps.{AddressStep, field_step, inner_steps, scaled_step, step_before}
use Rattle.ir_core.specs.declared.lib_functions.Lib.{Lib}
use Rattle.ir_core.specs.declared.lib_functions.Lib.TheVariants as lib
use Rattle.ir_core.specs.declared.operands.Placed.{Placed}
use Rattle.ir_core.specs.declared.operands.StartArg.{StartArg}
use Rattle.ir_core.specs.declared.operations.Op.{Op}
use Rattle.ir_core.specs.declared.operations.Op.TheVariants as op
use Rattle.ir_core.specs.declared.refusals.Place.{Place}
use Rattle.ir_core.specs.declared.ir_module.Declare.{Declare}
use Rattle.ir_core.specs.declared.ir_module.Function.{Function}
use Rattle.ir_core.specs.declared.ir_module.Inst.{Inst}
use Rattle.ir_core.specs.declared.ir_module.Module.{Module}
use Rattle.ir_core.specs.Externals.{IsWidth, IsThere}
use Rattle.ir_core.specs.NumberTypes.{type_of, bits_of, constant_number, field_type}
use Rattle.ir_core.specs.Operations.{is_number_type}
use Rattle.ir_core.specs.Resolved.{IsResolvedType}
use Rattle.ir_core.specs.ResolvedBodies.{IsResolvedOp, IsResolvedPlaced}
use Rattle.ir_core.specs.Runnable.{IsRunnableOp}
use Rattle.ir_check_types.specs.Order.{unless}
use Rattle.ir_check_types.specs.Operands.{is_integer, is_typed, number_fault, integer_fault, typed_fault}
use Rattle.ir_check_types.specs.Instructions.{number_type_fault, is_cast, indices_fault, sized_fault, step_fault, steps_fault}
use Rattle.ir_check_types.specs.Rules.{operation_fault}
use Rattle.ir_check_types.proofs.PassedRules.{none_first, none_second, holds, both}
use Rattle.ir_machine.specs.Built.{IsBuiltOp, IsBuiltStep}
use Rattle.mi_code.specs.AddressCode.{indices_code, step_code, steps_code}
use Rattle.mi_code.specs.LibraryCode.{library_call}
use Rattle.mi_code.specs.MachineOperands.{operand_of}
use Rattle.mi_code.specs.SourceCode.{source_code}
use Rattle.mi_code.specs.TagChecks.{lib_by, lib_of}
use Rattle.built_rows.specs.Unbuilt.{is_built_function, is_built_row}
use Rattle.built_rows.specs.Laws.{DeclaresAreThere}
use Rattle.built_rows.proofs.Widths.{type-resolved, integer-width, number-width, cast-to, conversion}

-- what is known of an instruction of a function of an accepted module
pub record IsKnown (m : Module) (f : Function) (inst : Inst) : Type 0 where
  pub resolved : IsResolvedOp m f inst.op
  pub types : operation_fault m f inst.place inst.op ≡ None
  pub runnable : IsRunnableOp m inst.op
  pub row : is_built_row m inst.op ≡ true

-- what is known of the rest of the module: its types, the functions that it declares, and that functions have few parameters
pub record IsKnownModule (m : Module) : Type 0 where
  pub types : All (IsResolvedType m) m.types
  pub declares : DeclaresAreThere m
  pub few : (func : ℕ) (g : Function) → slice_get m.functions func ≡ Some g → g.params < 2 ^ 32

-- ---- operands

integer-here : (m : Module) (f : Function) (placed : Placed) → integer_fault m f placed ≡ None → is_integer (type_of m placed.ty) ≡ true
integer-here m f placed none = (both (is_integer (type_of m placed.ty)) (is_typed m f placed) (holds _ BadType placed.place none)).0

number-here : (m : Module) (f : Function) (placed : Placed) → number_fault m f placed ≡ None → is_number_type (type_of m placed.ty) ≡ true
number-here m f placed none = (both (is_number_type (type_of m placed.ty)) (is_typed m f placed) (holds _ BadType placed.place none)).0

width-here : (m : Module) (f : Function) (placed : Placed) → IsKnownModule m → IsResolvedPlaced m f placed → integer_fault m f placed ≡ None → IsWidth (bits_of (type_of m placed.ty))
width-here m f placed known resolved none =
    integer-width m (type_of m placed.ty) (type-resolved m known.types placed.ty resolved.type) (integer-here m f placed none)

-- ---- calls

lib-there : (declares : List Declare) (n : ℕ) → All (λ (d : Declare). IsThere d.lib) declares → n < length declares → IsThere (lib_by (slice_get declares n))
lib-there [] n there within = absurd (omega arith)
lib-there (d ∷ declares) zero there within = there 0 d (omega arith)
lib-there (d ∷ declares) (suc n) there within = lib-there declares n (λ k e h. there (suc k) e (omega arith)) (omega arith)

library-built : (f : Function) (function : Lib) (r : Option ℕ) (args : List Placed) (start : Option StartArg) → IsThere function → is_built_function function ≡ true
    → IsBuiltOp (library_call f function r args start)
library-built f lib.Malloc r args start there built = tt
library-built f lib.Calloc r args start there built = tt
library-built f lib.Realloc r args start there built = tt
library-built f lib.Free r args start there built = tt
library-built f lib.Putchar r args start there built = tt
library-built f lib.Exit r args start there built = tt
library-built f lib.Abort r args start there built = tt
library-built f lib.LlvmTrap r args start there built = tt
library-built f lib.LifetimeStart r args start there built = tt
library-built f lib.LifetimeEnd r args start there built = tt
library-built f lib.Assume r args start there built = tt
library-built f (lib.Bits kind width) r args start there built = there
library-built f (lib.Overflow kind width) r args start there built = there
library-built f other r args start there built = absurd cc

few-arguments : (m : Module) (func : ℕ) (args : List Placed) → IsKnownModule m → (found : Option Function) → slice_get m.functions func ≡ found
    → ((g : Function) → found ≡ Some g → length args ≡ g.params) → (found ≡ None → ⊥) → length args < 2 ^ 32
few-arguments m func args known None is counts some = absurd (some refl)
few-arguments m func args known (Some g) is counts some =
    let few = known.few func g is in
    let count = counts g refl in
    subst (λ n. n < 2 ^ 32) (sym count) few

is-there : {A : Type 0} (xs : List A) (n : ℕ) → n < length xs → slice_get xs n ≡ None → ⊥
is-there [] n within none = omega arith
is-there (x ∷ xs) zero within none = cc
is-there (x ∷ xs) (suc n) within none = is-there xs n (omega arith) none

-- ---- addresses

before-built : (m : Module) (step : AddressStep) (rest : Option (List AddressStep)) → IsBuiltStep (step_code m step) → All IsBuiltStep (steps_code m rest)
    → All IsBuiltStep (steps_code m (step_before step rest))
before-built m step None first all = All-nil IsBuiltStep
before-built m step (Some steps) first all = All-cons IsBuiltStep (step_code m step) _ first all

steps-built : (m : Module) (f : Function) (type : IrType) (indices : List Placed) → IsKnownModule m → All (IsResolvedPlaced m f) indices → steps_fault m f type indices ≡ None
    → All IsBuiltStep (steps_code m (inner_steps m type indices))
unfolding inner_steps
steps-built m f type [] known resolved none = All-nil IsBuiltStep
steps-built m f (Array count item) (index ∷ indices) known resolved none =
    let here = none_first (integer_fault m f index) _ (none_first (step_fault m f (Array count item) index) _ none) in
    before-built m (scaled_step m index item) (inner_steps m (type_of m item) indices)
    (width-here m f index known (All-head (IsResolvedPlaced m f) index indices resolved) here)
    (steps-built m f (type_of m item) indices known (All-tail (IsResolvedPlaced m f) index indices resolved) (none_second (step_fault m f (Array count item) index) _ none))
steps-built m f (Struct first count packed) (index ∷ indices) known resolved none =
    before-built m (field_step m first count packed index) (inner_steps m (type_of m (field_type m first (constant_number index.operand))) indices) tt
    (steps-built m f (type_of m (field_type m first (constant_number index.operand))) indices known (All-tail (IsResolvedPlaced m f) index indices resolved)
    (none_second (step_fault m f (Struct first count packed) index) _ none))
steps-built m f Void (index ∷ indices) known resolved none = All-nil IsBuiltStep
steps-built m f (Int width) (index ∷ indices) known resolved none = All-nil IsBuiltStep
steps-built m f Ptr (index ∷ indices) known resolved none = All-nil IsBuiltStep
steps-built m f Opaque (index ∷ indices) known resolved none = All-nil IsBuiltStep
steps-built m f (Pair width) (index ∷ indices) known resolved none = All-nil IsBuiltStep

indices-built : (m : Module) (f : Function) (place : Place) (ty : ℕ) (indices : List Placed) → IsKnownModule m → All (IsResolvedPlaced m f) indices
    → indices_fault m f place ty indices ≡ None → All IsBuiltStep (indices_code m ty indices)
indices-built m f place ty [] known resolved none = All-nil IsBuiltStep
indices-built m f place ty (index ∷ indices) known resolved none =
    let rest = none_second (sized_fault m ty place) _ none in
    before-built m (scaled_step m index ty) (inner_steps m (type_of m ty) indices)
    (width-here m f index known (All-head (IsResolvedPlaced m f) index indices resolved) (none_first (integer_fault m f index) _ rest))
    (steps-built m f (type_of m ty) indices known (All-tail (IsResolvedPlaced m f) index indices resolved) (none_second (integer_fault m f index) _ rest))

-- ---- each operation

built-by : (m : Module) (f : Function) (starts : List ℕ) (here : ℕ) (r : Option ℕ) (place : Place) (o : Op) → IsKnownModule m → IsResolvedOp m f o
    → operation_fault m f place o ≡ None → IsRunnableOp m o → is_built_row m o ≡ true → IfSome (source_code m f starts here r o) IsBuiltOp
built-by m f starts here r place (op.Binary kind a b) known resolved none runnable row =
    width-here m f a known resolved.0 (none_first (integer_fault m f a) _ (none_second (number_type_fault m a.ty place) _ none))
built-by m f starts here r place (op.Icmp pred a b) known resolved none runnable row =
    number-width m (type_of m a.ty) (type-resolved m known.types a.ty resolved.0.type) (number-here m f a (none_first (number_fault m f a) _ none))
built-by m f starts here r place (op.Cast kind a to) known resolved none runnable row =
    let cast = holds (is_cast kind (type_of m a.ty) (type_of m to)) BadType place (none_first _ (integer_fault m f a) none) in
    let whole = none_second (unless (is_cast kind (type_of m a.ty) (type_of m to)) BadType place) (integer_fault m f a) none in
    let is = integer-here m f a whole in (
      width-here m f a known resolved.0 whole,
      integer-width m (type_of m to) (type-resolved m known.types to resolved.1) (cast-to kind (type_of m a.ty) (type_of m to) is cast),
      conversion kind (type_of m a.ty) (type_of m to) is cast,
    )
built-by m f starts here r place (op.Switch on other cases) known resolved none runnable row =
    width-here m f on known resolved.0 (none_first (integer_fault m f on) _ none)
built-by m f starts here r place (op.Call func result args) known resolved none runnable row =
    let few = few-arguments m func args known (slice_get m.functions func) refl (λ g at. runnable g at) (is-there m.functions func resolved.0) in
    subst (λ n. n < 2 ^ 32) (sym (length-map args operand_of)) few
built-by m f starts here r place (op.CallLib declare result args start) known resolved none runnable row =
    library-built f (lib_of m declare) r args start (lib-there m.declares declare known.declares resolved.0) row
built-by m f starts here r place (op.Load ty at align) known resolved none runnable row =
    number-width m (type_of m ty) (type-resolved m known.types ty resolved.0)
    (holds (is_number_type (type_of m ty)) BadType place (none_first (number_type_fault m ty place) _ none))
built-by m f starts here r place (op.Store value at align) known resolved none runnable row =
    number-width m (type_of m value.ty) (type-resolved m known.types value.ty resolved.0.type)
    (holds (is_number_type (type_of m value.ty)) BadType place (none_first (number_type_fault m value.ty place) _ none))
built-by m f starts here r place (op.Gep ty base indices) known resolved none runnable row =
    indices-built m f place ty indices known resolved.2 (none_second (typed_fault m f Ptr base) _ none)
built-by m f starts here r place (op.Rmw kind at value align) known resolved none runnable row = absurd cc
built-by m f starts here r place (op.CmpXchg at expected new align) known resolved none runnable row = absurd cc
built-by m f starts here r place other known resolved none runnable row = tt

pub operation-built : (m : Module) (f : Function) (starts : List ℕ) (here : ℕ) (inst : Inst) → IsKnownModule m → IsKnown m f inst
    → IfSome (source_code m f starts here inst.result inst.op) IsBuiltOp
operation-built m f starts here inst known is = built-by m f starts here inst.result inst.place inst.op known is.resolved is.types is.runnable is.row
