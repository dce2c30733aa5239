-- Operands have values of their types, and steps go on from them.
use Rattle.std.proofs.Common.{◌≡◌, ℕ, List, [], slice_get, slice_index, Option, Some, None, Bool, true, false, ◌&&◌, refl, sym, ap, subst, eqb-true, ◌<◌, ◌^◌, ◌%◌}
use Rattle.std.specs.Prelude.{option_and_then}
use Rattle.std.specs.Option.{option_flatten}
use Rattle.hw_base.specs.declared.pointers.Base.{Base}
use Rattle.hw_base.specs.declared.pointers.Base.TheVariants.{Object}
use Rattle.ir_core.specs.declared.types.IrType.{IrType}
use Rattle.ir_core.specs.declared.types.IrType.TheVariants.{Void, Int, Ptr, Array, Struct, Opaque, Pair}
use Rattle.ir_core.specs.declared.operands.Operand.{Operand}
use Rattle.ir_core.specs.declared.operands.Operand.TheVariants.{Reg, Int as Literal, Null, Global}
use Rattle.ir_core.specs.declared.operands.Placed.{Placed}
use Rattle.ir_core.specs.declared.ir_module.Function.{Function}
use Rattle.ir_core.specs.declared.ir_module.Module.{Module}
use Rattle.ir_core.specs.NumberTypes.{type_of}
use Rattle.ir_core.specs.Operations.{is_value_type, is_number_type}
use Rattle.ir_core.specs.ResolvedBodies.{IsResolvedOperand}
use Rattle.ir_check_types.specs.Operands.{is_same, has_its_type, is_typed}
use Rattle.ir_meaning.specs.Births.{Birth}
use Rattle.ir_meaning.specs.Operands.{of_kind, constant_value, value_by, operand_value, with_integer, with_pointer, with_pair, with_value, with_named, single}
use Rattle.ir_meaning.specs.State.{SourceOutcome}
use Rattle.ir_meaning.specs.Values.{Value, Integer, Address, IntegerAndBit}
use Rattle.well_typed_runs.specs.KnownValues.{IsOfType, IsKnownBase, IsKnownValue, AreGoodBirths, HasValue}
use Rattle.std.proofs.Math.Nat.{mod-lt}
use Rattle.std.proofs.lemmas.Nat.{pow_pos}

-- ---- types

pub both : (a b : Bool) → (a && b) ≡ true → (a ≡ true) × (b ≡ true)
both true b e = (refl, e)
both false b e = absurd cc

-- a value of a type is of any other one that is the same
pub same_kind : (type other : IrType) (value : Value) → is_same type other ≡ true → IsOfType type value → IsOfType other value
same_kind Void other value e h = absurd cc
same_kind (Int w) Void value e h = absurd cc
same_kind (Int w) (Int v) (Integer n) e h = refl
same_kind (Int w) (Int v) (Address base off) e h = absurd cc
same_kind (Int w) (Int v) (IntegerAndBit n bit) e h = absurd cc
same_kind (Int w) Ptr value e h = absurd cc
same_kind (Int w) (Array count item) value e h = absurd cc
same_kind (Int w) (Struct first count packed) value e h = absurd cc
same_kind (Int w) Opaque value e h = absurd cc
same_kind (Int w) (Pair v) value e h = absurd cc
same_kind Ptr Void value e h = absurd cc
same_kind Ptr (Int v) value e h = absurd cc
same_kind Ptr Ptr value e h = h
same_kind Ptr (Array count item) value e h = absurd cc
same_kind Ptr (Struct first count packed) value e h = absurd cc
same_kind Ptr Opaque value e h = absurd cc
same_kind Ptr (Pair v) value e h = absurd cc
same_kind (Array count item) other value e h = absurd cc
same_kind (Struct first count packed) other value e h = absurd cc
same_kind Opaque other value e h = absurd cc
same_kind (Pair w) Void value e h = absurd cc
same_kind (Pair w) (Int v) value e h = absurd cc
same_kind (Pair w) Ptr value e h = absurd cc
same_kind (Pair w) (Array count item) value e h = absurd cc
same_kind (Pair w) (Struct first count packed) value e h = absurd cc
same_kind (Pair w) Opaque value e h = absurd cc
same_kind (Pair w) (Pair v) (Integer n) e h = absurd cc
same_kind (Pair w) (Pair v) (Address base off) e h = absurd cc
same_kind (Pair w) (Pair v) (IntegerAndBit n bit) e h = refl

-- types of values that are the same are equal
pub same_type : (type other : IrType) → is_value_type type ≡ true → is_same type other ≡ true → type ≡ other
same_type Void other v e = absurd cc
same_type (Int w) Void v e = absurd cc
same_type (Int w) (Int x) v e = ap (λ k. Int k) (eqb-true w x e)
same_type (Int w) Ptr v e = absurd cc
same_type (Int w) (Array count item) v e = absurd cc
same_type (Int w) (Struct first count packed) v e = absurd cc
same_type (Int w) Opaque v e = absurd cc
same_type (Int w) (Pair x) v e = absurd cc
same_type Ptr Void v e = absurd cc
same_type Ptr (Int x) v e = absurd cc
same_type Ptr Ptr v e = refl
same_type Ptr (Array count item) v e = absurd cc
same_type Ptr (Struct first count packed) v e = absurd cc
same_type Ptr Opaque v e = absurd cc
same_type Ptr (Pair x) v e = absurd cc
same_type (Array count item) other v e = absurd cc
same_type (Struct first count packed) other v e = absurd cc
same_type Opaque other v e = absurd cc
same_type (Pair w) Void v e = absurd cc
same_type (Pair w) (Int x) v e = absurd cc
same_type (Pair w) Ptr v e = absurd cc
same_type (Pair w) (Array count item) v e = absurd cc
same_type (Pair w) (Struct first count packed) v e = absurd cc
same_type (Pair w) Opaque v e = absurd cc
same_type (Pair w) (Pair x) v e = ap (λ k. Pair k) (eqb-true w x e)

-- ---- the values of operands

-- a constant of a type of values
constant_has : (births : List Birth) (type : IrType) (n : ℕ) → is_value_type type ≡ true → HasValue births type (constant_value type n)
constant_has births Void n v = absurd cc
constant_has births (Int width) n v = (refl, tt)
constant_has births Ptr n v = (refl, tt)
constant_has births (Array count item) n v = absurd cc
constant_has births (Struct first count packed) n v = absurd cc
constant_has births Opaque n v = absurd cc
constant_has births (Pair width) n v = (refl, tt)

pub of_type : (births : List Birth) (type : IrType) (value : Value) → IsOfType type value → IsKnownValue births value → HasValue births type (of_kind type value)
of_type births type value h k = subst (HasValue births type) (sym h) (h, k)

global_has : (births : List Birth) (type : IrType) (index off : ℕ) → is_same type Ptr ≡ true → IsKnownBase births (Object (record { birth = 0; index = index }))
    → HasValue births type (value_by type [] (Global index off))
global_has births Void index off e h = absurd cc
global_has births (Int width) index off e h = absurd cc
global_has births Ptr index off e h = (refl, h)
global_has births (Array count item) index off e h = absurd cc
global_has births (Struct first count packed) index off e h = absurd cc
global_has births Opaque index off e h = absurd cc
global_has births (Pair width) index off e h = absurd cc

-- an operand whose register, if it is one, has a value of its type
pub operand_has : (m : Module) (births : List Birth) (f : Function) (registers : List (Option Value)) (placed : Placed) → AreGoodBirths m births
    → is_value_type (type_of m placed.ty) ≡ true → IsResolvedOperand m f placed.operand → is_typed m f placed ≡ true
    → ((r : ℕ) → placed.operand ≡ Reg r → (value : Value) × (slice_get registers r ≡ Some (Some value)) × IsOfType (type_of m (slice_index f.regs r)) value × IsKnownValue births value)
    → HasValue births (type_of m placed.ty) (operand_value m registers placed)
operand_has m births f registers placed good v resolved typed set = by_operand placed.operand refl resolved typed
  where
    by_operand : (o : Operand) → placed.operand ≡ o → IsResolvedOperand m f o → has_its_type m f placed o ≡ true → HasValue births (type_of m placed.ty) (value_by (type_of m placed.ty) registers o)
    by_operand (Reg r) is there e =
        let (value, found, type, known) = set r is in
        subst (λ (x : Option (Option Value)). HasValue births (type_of m placed.ty) (option_and_then (of_kind (type_of m placed.ty)) (option_flatten x))) (sym found)
        (of_type births (type_of m placed.ty) value (same_kind (type_of m (slice_index f.regs r)) (type_of m placed.ty) value e type) known)
    by_operand (Literal n) is there e = constant_has births (type_of m placed.ty) n v
    by_operand Null is there e = constant_has births (type_of m placed.ty) 0 v
    by_operand (Global index off) is there e =
        global_has births (type_of m placed.ty) index off (both placed.fits (is_same (type_of m placed.ty) Ptr) e).1 (good.globals index there)

-- ---- on from values

pub integer_good : (G : SourceOutcome → Type 0) (births : List Birth) (width w : ℕ) (found : Option Value) (go : ℕ → SourceOutcome) → HasValue births (Int w) found
    → ((n : ℕ) → G (go n)) → G (with_integer width found go)
unfolding with_integer
integer_good G births width w None go h k = absurd h
integer_good G births width w (Some (Integer n)) go h k = k _
integer_good G births width w (Some (Address base off)) go h k = let e = h.0 in absurd cc
integer_good G births width w (Some (IntegerAndBit n bit)) go h k = let e = h.0 in absurd cc

-- the same, with the bound on what a step goes on from
pub bounded_good : (G : SourceOutcome → Type 0) (births : List Birth) (width w : ℕ) (found : Option Value) (go : ℕ → SourceOutcome) → HasValue births (Int w) found
    → ((n : ℕ) → n < 2 ^ width → G (go n)) → G (with_integer width found go)
unfolding with_integer
bounded_good G births width w None go h k = absurd h
bounded_good G births width w (Some (Integer n)) go h k = k (n % 2 ^ width) (mod-lt n (pow_pos width))
bounded_good G births width w (Some (Address base off)) go h k = let e = h.0 in absurd cc
bounded_good G births width w (Some (IntegerAndBit n bit)) go h k = let e = h.0 in absurd cc

pub pointer_good : (G : SourceOutcome → Type 0) (births : List Birth) (found : Option Value) (go : Base → ℕ → SourceOutcome) → HasValue births Ptr found
    → ((base : Base) (off : ℕ) → IsKnownBase births base → G (go base off)) → G (with_pointer found go)
unfolding with_pointer
pointer_good G births None go h k = absurd h
pointer_good G births (Some (Integer n)) go h k = let e = h.0 in absurd cc
pointer_good G births (Some (Address base off)) go h k = k base _ h.1
pointer_good G births (Some (IntegerAndBit n bit)) go h k = let e = h.0 in absurd cc

pub pair_good : (G : SourceOutcome → Type 0) (births : List Birth) (w : ℕ) (found : Option Value) (go : ℕ → ℕ → SourceOutcome) → HasValue births (Pair w) found
    → ((n bit : ℕ) → G (go n bit)) → G (with_pair found go)
unfolding with_pair
pair_good G births w None go h k = absurd h
pair_good G births w (Some (Integer n)) go h k = let e = h.0 in absurd cc
pair_good G births w (Some (Address base off)) go h k = let e = h.0 in absurd cc
pair_good G births w (Some (IntegerAndBit n bit)) go h k = k n bit

-- a value of a number's type is no pair
pub single_has : (births : List Birth) (type : IrType) (value : Value) → is_number_type type ≡ true → IsOfType type value → single value ≡ Some value
single_has births type (Integer n) v h = refl
single_has births type (Address base off) v h = refl
single_has births Void (IntegerAndBit n bit) v h = absurd cc
single_has births (Int width) (IntegerAndBit n bit) v h = absurd cc
single_has births Ptr (IntegerAndBit n bit) v h = absurd cc
single_has births (Array count item) (IntegerAndBit n bit) v h = absurd cc
single_has births (Struct first count packed) (IntegerAndBit n bit) v h = absurd cc
single_has births Opaque (IntegerAndBit n bit) v h = absurd cc
single_has births (Pair width) (IntegerAndBit n bit) v h = absurd cc

pub value_good : (G : SourceOutcome → Type 0) (births : List Birth) (type : IrType) (found : Option Value) (go : Value → SourceOutcome) → is_number_type type ≡ true
    → HasValue births type found → ((value : Value) → IsOfType type value → IsKnownValue births value → G (go value)) → G (with_value found go)
unfolding with_named
value_good G births type None go v h k = absurd h
value_good G births type (Some value) go v h k =
    subst (λ (x : Option Value). G (with_named x go)) (sym (single_has births type value v h.0)) (k value h.0 h.1)

pub named_good : {X : Type 0} (G : SourceOutcome → Type 0) (found : Option X) (x : X) (go : X → SourceOutcome) → found ≡ Some x → G (go x) → G (with_named found go)
unfolding with_named
named_good {X} G found x go e k = subst (λ (o : Option X). G (with_named o go)) (sym e) k
