-- The arguments of a call of a declared function have values of the types of its parameters.
use Rattle.std.proofs.Common.{◌≡◌, ℕ, zero, suc, ◌<◌, List, [], ◌∷◌, length, take, drop, slice_get, Option, Some, None, Bool, true, false, ◌||◌, ◌&&◌, refl, sym, ◌∙◌, ap, subst, arith, eqb-true}
use Rattle.ir_core.specs.declared.ir_module.Declare.{Declare}
use Rattle.ir_core.specs.declared.ir_module.Inst.{Inst}
use Rattle.ir_core.specs.declared.ir_module.Module.{Module}
use Rattle.ir_core.specs.declared.operands.Placed.{Placed}
use Rattle.ir_core.specs.declared.operands.StartArg.{StartArg}
use Rattle.ir_core.specs.declared.operations.Op.{Op}
use Rattle.ir_core.specs.declared.operations.Op.TheVariants as op
use Rattle.ir_core.specs.declared.types.IrType.{IrType}
use Rattle.ir_core.specs.declared.types.IrType.TheVariants.{Void, Int, Ptr, Array, Struct, Opaque, Pair}
use Rattle.ir_core.specs.NumberTypes.{type_of}
use Rattle.ir_core.specs.Operations.{is_value_type, given_type}
use Rattle.ir_core.specs.ResolvedBodies.{IsResolvedOp, IsResolvedPlaced}
use Rattle.ir_check_types.specs.Operands.{is_same, typed_fault}
use Rattle.ir_check_types.specs.Calls.{argument_fault, arguments_fault, no_start_fault}
use Rattle.ir_check_types.specs.Rules.{are_types, has_parameters}
use Rattle.ir_check_types.specs.Signatures.{lib_parameters, is_lifetime}
use Rattle.ir_check_flow.proofs.HomesFound.{dropped_from}
use Rattle.ir_meaning.specs.InstructionStep.{value_of, values_of}
use Rattle.ir_meaning.specs.Operands.{argument}
use Rattle.ir_meaning.specs.State.{SourceSeen}
use Rattle.ir_meaning.specs.Values.{Value}
use Rattle.well_typed_runs.specs.KnownValues.{HasValue}
use Rattle.well_typed_runs.specs.GoodWorlds.{IsGoodSeen}
use Rattle.well_typed_runs.proofs.Blocks.{all_at, get_below}
use Rattle.well_typed_runs.proofs.CallSteps.{arguments_at, argument_from}
use Rattle.well_typed_runs.proofs.GoingOn as on
use Rattle.well_typed_runs.proofs.Settings.{IsSetting, value_same}
use Rattle.well_typed_runs.proofs.Values.{both}

-- ---- types

either : (a b : Bool) → (a || b) ≡ true → b ≡ false → a ≡ true
either true b e h = refl
either false b e h = absurd cc

-- the declared types are those of the function, but for the functions on lifetimes
pub declared_types : (m : Module) (d : Declare) → has_parameters m d ≡ true → is_lifetime d.lib ≡ false → are_types m d.params (lib_parameters d.lib) ≡ true
declared_types m d e no_lifetime =
    either (are_types m d.params (lib_parameters d.lib)) (is_lifetime d.lib && are_types m d.params (Int 64 ∷ lib_parameters d.lib)) e
    (ap (λ (b : Bool). b && are_types m d.params (Int 64 ∷ lib_parameters d.lib)) no_lifetime)

pub same_count : (m : Module) (numbers : List ℕ) (types : List IrType) → are_types m numbers types ≡ true → length numbers ≡ length types
same_count m [] [] e = refl
same_count m [] (type ∷ types) e = absurd cc
same_count m (ty ∷ numbers) [] e = absurd cc
same_count m (ty ∷ numbers) (type ∷ types) e = ap (λ k. suc k) (same_count m numbers types (both (is_same (type_of m ty) type) (are_types m numbers types) e).1)

-- the declared type of a parameter
pub declared_type : (m : Module) (numbers : List ℕ) (types : List IrType) (k : ℕ) (type : IrType) → are_types m numbers types ≡ true → slice_get types k ≡ Some type
    → (ty : ℕ) × (slice_get numbers k ≡ Some ty) × (is_same (type_of m ty) type ≡ true)
declared_type m [] [] k type e at = absurd cc
declared_type m [] (x ∷ types) k type e at = absurd cc
declared_type m (ty ∷ numbers) [] k type e at = absurd cc
declared_type m (ty ∷ numbers) (x ∷ types) zero type e at =
    let same : x ≡ type = cc in
    (ty, refl, subst (λ (t : IrType). is_same (type_of m ty) t ≡ true) same (both (is_same (type_of m ty) x) (are_types m numbers types) e).0)
declared_type m (ty ∷ numbers) (x ∷ types) (suc k) type e at = declared_type m numbers types k type (both (is_same (type_of m ty) x) (are_types m numbers types) e).1 at

-- a type that is the same as one of values
pub same_right : (type other : IrType) → is_same type other ≡ true → is_value_type other ≡ true → type ≡ other
same_right Void Void e v = absurd cc
same_right Void other e v = absurd cc
same_right (Int w) (Int v) e n = ap (λ k. Int k) (eqb-true w v e)
same_right (Int w) other e n = absurd cc
same_right Ptr Ptr e n = refl
same_right Ptr other e n = absurd cc
same_right (Pair w) (Pair v) e n = ap (λ k. Pair k) (eqb-true w v e)
same_right (Pair w) other e n = absurd cc
same_right (Array count item) other e n = absurd cc
same_right (Struct first count packed) other e n = absurd cc
same_right Opaque other e n = absurd cc

-- what is the same as no value is none
pub same_none : (type other : IrType) → is_same type other ≡ true → is_value_type other ≡ false → is_value_type type ≡ false
same_none Void other e h = refl
same_none (Int w) (Int v) e h = absurd cc
same_none (Int w) other e h = absurd cc
same_none Ptr Ptr e h = absurd cc
same_none Ptr other e h = absurd cc
same_none (Pair w) (Pair v) e h = absurd cc
same_none (Pair w) other e h = absurd cc
same_none (Array count item) other e h = refl
same_none (Struct first count packed) other e h = refl
same_none Opaque other e h = refl

-- ---- arguments

argument-some : (m : Module) (s : SourceSeen) (args : List Placed) (k : ℕ) (arg : Placed) → slice_get args k ≡ Some arg → argument (values_of m s args) k ≡ value_of m s arg
argument-some m s [] k arg e = absurd cc
argument-some m s (x ∷ args) zero arg e = let same : x ≡ arg = cc in ap (λ (y : Placed). value_of m s y) same
argument-some m s (x ∷ args) (suc k) arg e = argument-some m s args k arg e

some_item : {A : Type 0} (xs : List A) (k : ℕ) → k < length xs → (x : A) × (slice_get xs k ≡ Some x)
some_item [] k h = absurd (omega arith)
some_item (x ∷ xs) zero h = (x, refl)
some_item (x ∷ xs) (suc k) h = some_item xs k (omega arith)

taken-item : {A : Type 0} (xs : List A) (n k : ℕ) (x : A) → k < n → slice_get xs k ≡ Some x → slice_get (take n xs) k ≡ Some x
taken-item [] n k x h e = absurd cc
taken-item (y ∷ xs) zero k x h e = absurd (omega arith)
taken-item (y ∷ xs) (suc n) zero x h e = e
taken-item (y ∷ xs) (suc n) (suc k) x h e = taken-item xs n k x (omega arith) e

pub no_start : (start : Option StartArg) → no_start_fault start ≡ None → start ≡ None
no_start None e = refl
no_start (Some start) e = absurd cc

module _ (m : Module) (s : SourceSeen) (good : IsGoodSeen m s) (setting : IsSetting m good.frame.f good.frame.at.inst) where
  abbrev here : Inst
  here = good.frame.at.inst

  -- an argument whose parameter has a type
  wanted_has : (declare ty : ℕ) (args : List Placed) (start : Option StartArg) (k : ℕ) (arg : Placed) (wanted : ℕ) (type : IrType) → here.op ≡ op.CallLib declare ty args start
      → IsResolvedOp m good.frame.f (op.CallLib declare ty args start) → slice_get args k ≡ Some arg → typed_fault m good.frame.f (type_of m wanted) arg ≡ None
      → is_same (type_of m wanted) type ≡ true → HasValue s.shared.births type (argument (values_of m s args) k)
  wanted_has declare ty args start k arg wanted type is resolved at fault same =
      let has = on.typed_at m s good setting (op.CallLib declare ty args start) k arg (type_of m wanted) is at (all_at (IsResolvedPlaced m good.frame.f) args k arg resolved.2 at) fault in
      subst (λ (o : Option Value). HasValue s.shared.births type o) (sym (argument-some m s args k arg at)) (value_same s.shared.births (type_of m wanted) type (value_of m s arg) same has)

  -- the arguments of a call without a start function
  pub argument_has : (declare ty : ℕ) (args : List Placed) (d : Declare) (types : List IrType) (k : ℕ) (type : IrType) → here.op ≡ op.CallLib declare ty args None
      → IsResolvedOp m good.frame.f (op.CallLib declare ty args None) → are_types m d.params types ≡ true → length args ≡ length d.params
      → arguments_fault m good.frame.f d.params 0 args ≡ None → slice_get types k ≡ Some type → HasValue s.shared.births type (argument (values_of m s args) k)
  argument_has declare ty args d types k type is resolved e count none at =
      let (wanted, there, same) = declared_type m d.params types k type e at in
      let below = get_below d.params k wanted there in
      let (arg, found) = some_item args k (omega arith) in
      wanted_has declare ty args None k arg wanted type is resolved found
      (subst (λ (o : Option ℕ). argument_fault m good.frame.f o arg ≡ None) there (arguments_at m good.frame.f d.params args k arg none found)) same

  -- those of a call with one: the first two, and the last one
  pub early_has : (declare ty : ℕ) (args : List Placed) (start : Option StartArg) (d : Declare) (types : List IrType) (k : ℕ) (type : IrType) → here.op ≡ op.CallLib declare ty args start
      → IsResolvedOp m good.frame.f (op.CallLib declare ty args start) → are_types m d.params types ≡ true → k < 2 → k < length args
      → arguments_fault m good.frame.f d.params 0 (take 2 args) ≡ None → slice_get types k ≡ Some type → HasValue s.shared.births type (argument (values_of m s args) k)
  early_has declare ty args start d types k type is resolved e early below none at =
      let (wanted, there, same) = declared_type m d.params types k type e at in
      let (arg, found) = some_item args k below in
      wanted_has declare ty args start k arg wanted type is resolved found
      (subst (λ (o : Option ℕ). argument_fault m good.frame.f o arg ≡ None) there (arguments_at m good.frame.f d.params (take 2 args) k arg none (taken-item args 2 k arg early found))) same

  pub late_has : (declare ty : ℕ) (args : List Placed) (start : Option StartArg) (d : Declare) (types : List IrType) (type : IrType) → here.op ≡ op.CallLib declare ty args start
      → IsResolvedOp m good.frame.f (op.CallLib declare ty args start) → are_types m d.params types ≡ true → 2 < length args
      → arguments_fault m good.frame.f d.params 3 (drop 2 args) ≡ None → slice_get types 3 ≡ Some type → HasValue s.shared.births type (argument (values_of m s args) 2)
  late_has declare ty args start d types type is resolved e below none at =
      let (wanted, there, same) = declared_type m d.params types 3 type e at in
      let (arg, found) = some_item args 2 below in
      let fault = argument_from m good.frame.f d.params 3 (drop 2 args) 0 arg none (dropped_from args 2 0 ∙ found) in
      wanted_has declare ty args start 2 arg wanted type is resolved found
      (subst (λ (o : Option ℕ). argument_fault m good.frame.f o arg ≡ None) there fault) same

  -- ---- the result

  -- the result has the type of the function's
  pub lib_given : (declare ty : ℕ) (args : List Placed) (start : Option StartArg) (d : Declare) (type : IrType) → here.op ≡ op.CallLib declare ty args start
      → is_same (type_of m ty) (type_of m d.result) ≡ true → is_same (type_of m d.result) type ≡ true → is_value_type type ≡ true → given_type m here.op ≡ type
  lib_given declare ty args start d type is result declared v =
      let second : type_of m d.result ≡ type = same_right (type_of m d.result) type declared v in
      let first : type_of m ty ≡ type_of m d.result = same_right (type_of m ty) (type_of m d.result) result (subst (λ (t : IrType). is_value_type t ≡ true) (sym second) v) in
      ap (λ (o : Op). given_type m o) is ∙ (first ∙ second)

  pub lib_gives_none : (declare ty : ℕ) (args : List Placed) (start : Option StartArg) (d : Declare) (type : IrType) → here.op ≡ op.CallLib declare ty args start
      → is_same (type_of m ty) (type_of m d.result) ≡ true → is_same (type_of m d.result) type ≡ true → is_value_type type ≡ false → is_value_type (given_type m here.op) ≡ false
  lib_gives_none declare ty args start d type is result declared v =
      ap (λ (o : Op). is_value_type (given_type m o)) is ∙ same_none (type_of m ty) (type_of m d.result) result (same_none (type_of m d.result) type declared v)
