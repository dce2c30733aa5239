-- Steps that compute a value from values, are not stuck and give a value of the type of their register.
use Rattle.std.proofs.Common.{◌≡◌, ℕ, zero, suc, slice_get, Option, Some, None, Bool, true, false, if◌then◌else◌, ◌&&◌, refl, ◌∙◌, ap, subst, inl}
use Rattle.std.specs.Prelude.{Result, Ok, Err}
use Rattle.hw_base.specs.Bits.{bit_of, is_set}
use Rattle.hw_base.specs.declared.endings.Trap.{Trap}
use Rattle.hw_base.specs.declared.operators.BinOp.{BinOp}
use Rattle.hw_base.specs.declared.operators.CastOp.{CastOp}
use Rattle.hw_base.specs.declared.operators.CastOp.TheVariants.{Trunc, ZExt, SExt}
use Rattle.hw_base.specs.declared.operators.Pred.{Pred}
use Rattle.ir_core.specs.declared.faults.Fault.TheVariants.{BadType}
use Rattle.ir_core.specs.declared.ir_module.Inst.{Inst}
use Rattle.ir_core.specs.declared.ir_module.Module.{Module}
use Rattle.ir_core.specs.declared.operands.Placed.{Placed}
use Rattle.ir_core.specs.declared.operations.Op.{Op}
use Rattle.ir_core.specs.declared.operations.Op.TheVariants as op
use Rattle.ir_core.specs.declared.types.IrType.{IrType}
use Rattle.ir_core.specs.declared.types.IrType.TheVariants.{Void, Int, Ptr, Array, Struct, Opaque, Pair}
use Rattle.ir_core.specs.NumberTypes.{type_of}
use Rattle.ir_core.specs.Operations.{is_terminator, is_value_type, is_number_type, given_type, part_of}
use Rattle.ir_core.specs.ResolvedBodies.{IsResolvedOp}
use Rattle.ir_check_types.specs.Order.{unless}
use Rattle.ir_check_types.specs.Operands.{number_fault, integer_fault, typed_fault, is_typed}
use Rattle.ir_check_types.specs.Instructions.{number_type_fault, is_cast, is_pair}
use Rattle.ir_check_types.specs.Rules.{operation_fault}
use Rattle.ir_check_types.proofs.PassedRules.{none_first, none_second, holds}
use Rattle.ir_check_flow.specs.Flow.{operands_of}
use Rattle.ir_meaning.specs.ArithmeticSteps.{binary_step, gives_or_traps, icmp_step, gives_comparison, cast_step, select_step, freeze_step, extract_step}
use Rattle.ir_meaning.specs.InstructionStep.{value_of, width_at}
use Rattle.ir_meaning.specs.State.{SourceSeen, SourceOutcome, nothing_happened}
use Rattle.ir_meaning.specs.StepEnds.{gives}
use Rattle.ir_meaning.specs.Values.{Value, Integer}
use Rattle.well_typed_runs.specs.KnownValues.{IsOfType, IsKnownValue, HasValue}
use Rattle.well_typed_runs.specs.GoodWorlds.{IsGoodSeen, IsGoodOutcome}
use Rattle.well_typed_runs.proofs.Settings.{IsSetting, number_is_value, operand_good}
use Rattle.well_typed_runs.proofs.GoingOn as on
use Rattle.well_typed_runs.proofs.Values.{both, integer_good, pointer_good, pair_good, value_good}

cast_to : (kind : CastOp) (w : ℕ) (to : IrType) → is_cast kind (Int w) to ≡ true → (v : ℕ) × (to ≡ Int v)
cast_to Trunc w (Int v) e = (v, refl)
cast_to ZExt w (Int v) e = (v, refl)
cast_to SExt w (Int v) e = (v, refl)
cast_to kind w other e = absurd cc

pair_type : (type : IrType) → is_pair type ≡ true → (w : ℕ) × (type ≡ Pair w)
pair_type (Pair w) e = (w, refl)
pair_type other e = absurd cc

module _ (m : Module) (s : SourceSeen) (good : IsGoodSeen m s) (setting : IsSetting m good.frame.f good.frame.at.inst) where
  abbrev here : Inst
  here = good.frame.at.inst

  abbrev is_good : SourceOutcome → Type 0
  is_good outcome = IsGoodOutcome m s outcome

  -- an integer is the result
  pub gives_integer : (width n : ℕ) → is_terminator here.op ≡ false → given_type m here.op ≡ Int width → IsGoodOutcome m s (gives s here.result (Integer n))
  gives_integer width n plain given = on.gives_good m s good setting (Int width) (Integer n) nothing_happened plain given refl refl tt

  -- ---- binary operators

  or_trap : (width : ℕ) (r : Result ℕ Trap) → is_terminator here.op ≡ false → given_type m here.op ≡ Int width → IsGoodOutcome m s (gives_or_traps s here.result r)
  or_trap width (Ok n) plain given = gives_integer width n plain given
  or_trap width (Err trap) plain given = inl refl

  pub binary_good : (kind : BinOp) (a b : Placed) → here.op ≡ op.Binary kind a b → IsResolvedOp m good.frame.f (op.Binary kind a b)
      → operation_fault m good.frame.f here.place (op.Binary kind a b) ≡ None
      → IsGoodOutcome m s (binary_step s here.result kind (width_at m a.ty) (value_of m s a) (value_of m s b))
  unfolding binary_step
  binary_good kind a b is resolved none =
      let more = none_second (number_type_fault m a.ty here.place) _ none in
      let (w, wide, left) = on.integer_at m s good setting (op.Binary kind a b) 0 a is refl resolved.0 (none_first (integer_fault m good.frame.f a) _ more) in
      let (v, _wide, right) = on.integer_at m s good setting (op.Binary kind a b) 1 b is refl resolved.1 (none_second (integer_fault m good.frame.f a) _ more) in
      let plain : is_terminator here.op ≡ false = ap is_terminator is in
      let given : given_type m here.op ≡ Int w = ap (λ (o : Op). given_type m o) is ∙ wide in
      integer_good is_good s.shared.births (width_at m a.ty) w (value_of m s a) _ left (λ x.
      integer_good is_good s.shared.births (width_at m a.ty) v (value_of m s b) _ right (λ y. or_trap w _ plain given))

  -- ---- comparisons

  comparison : (answer : Option Bool) → is_terminator here.op ≡ false → given_type m here.op ≡ Int 1 → IsGoodOutcome m s (gives_comparison s here.result answer)
  comparison None plain given = inl refl
  comparison (Some b) plain given = gives_integer 1 (bit_of b) plain given

  compared : (pred : Pred) (type : IrType) (a b : Option Value) → is_terminator here.op ≡ false → given_type m here.op ≡ Int 1 → is_number_type type ≡ true
      → HasValue s.shared.births type a → HasValue s.shared.births type b → IsGoodOutcome m s (icmp_step s here.result pred type a b)
  unfolding icmp_step
  compared pred Void a b plain given v left right = absurd cc
  compared pred (Int width) a b plain given v left right =
      integer_good is_good s.shared.births width width a _ left (λ x. integer_good is_good s.shared.births width width b _ right (λ y. gives_integer 1 _ plain given))
  compared pred Ptr a b plain given v left right =
      pointer_good is_good s.shared.births a _ left (λ p x k. pointer_good is_good s.shared.births b _ right (λ q y l. comparison _ plain given))
  compared pred (Array count item) a b plain given v left right = absurd cc
  compared pred (Struct first count packed) a b plain given v left right = absurd cc
  compared pred Opaque a b plain given v left right = absurd cc
  compared pred (Pair width) a b plain given v left right = absurd cc

  pub icmp_good : (pred : Pred) (a b : Placed) → here.op ≡ op.Icmp pred a b → IsResolvedOp m good.frame.f (op.Icmp pred a b)
      → operation_fault m good.frame.f here.place (op.Icmp pred a b) ≡ None
      → IsGoodOutcome m s (icmp_step s here.result pred (type_of m a.ty) (value_of m s a) (value_of m s b))
  icmp_good pred a b is resolved none =
      let left = on.number_at m s good setting (op.Icmp pred a b) 0 a is refl resolved.0 (none_first (number_fault m good.frame.f a) _ none) in
      let right = on.typed_at m s good setting (op.Icmp pred a b) 1 b (type_of m a.ty) is refl resolved.1 (none_second (number_fault m good.frame.f a) _ none) in
      compared pred (type_of m a.ty) (value_of m s a) (value_of m s b) (ap is_terminator is) (ap (λ (o : Op). given_type m o) is) left.0 left.1 right

  -- ---- conversions

  pub cast_good : (kind : CastOp) (a : Placed) (to : ℕ) → here.op ≡ op.Cast kind a to → IsResolvedOp m good.frame.f (op.Cast kind a to)
      → operation_fault m good.frame.f here.place (op.Cast kind a to) ≡ None
      → IsGoodOutcome m s (cast_step s here.result kind (width_at m a.ty) (width_at m to) (value_of m s a))
  unfolding cast_step
  cast_good kind a to is resolved none =
      let castable = holds (is_cast kind (type_of m a.ty) (type_of m to)) BadType here.place (none_first _ (integer_fault m good.frame.f a) none) in
      let (w, wide, from) = on.integer_at m s good setting (op.Cast kind a to) 0 a is refl resolved.0
      (none_second (unless (is_cast kind (type_of m a.ty) (type_of m to)) BadType here.place) (integer_fault m good.frame.f a) none) in
      let (v, narrow) = cast_to kind w (type_of m to) (subst (λ (t : IrType). is_cast kind t (type_of m to) ≡ true) wide castable) in
      integer_good is_good s.shared.births (width_at m a.ty) w (value_of m s a) _ from (λ x.
      gives_integer v _ (ap is_terminator is) (ap (λ (o : Op). given_type m o) is ∙ narrow))

  -- ---- choices

  -- a value of a number's type is the result
  pub gives_number : (type : IrType) (value : Value) → is_terminator here.op ≡ false → given_type m here.op ≡ type → is_number_type type ≡ true → IsOfType type value
      → IsKnownValue s.shared.births value → IsGoodOutcome m s (gives s here.result value)
  gives_number type value plain given v typed known = on.gives_good m s good setting type value nothing_happened plain given (number_is_value type v) typed known

  if_has : (test : Bool) (type : IrType) (a b : Option Value) → HasValue s.shared.births type a → HasValue s.shared.births type b → HasValue s.shared.births type (if test then a else b)
  if_has true type a b left right = left
  if_has false type a b left right = right

  pub select_good : (cond a b : Placed) → here.op ≡ op.Select cond a b → IsResolvedOp m good.frame.f (op.Select cond a b)
      → operation_fault m good.frame.f here.place (op.Select cond a b) ≡ None
      → IsGoodOutcome m s (select_step s here.result (value_of m s cond) (value_of m s a) (value_of m s b))
  unfolding select_step
  select_good cond a b is resolved none =
      let o : Op = op.Select cond a b in
      let more = none_second (number_type_fault m a.ty here.place) _ none in
      let rest = none_second (typed_fault m good.frame.f (Int 1) cond) _ more in
      let test = on.typed_at m s good setting o 0 cond (Int 1) is refl resolved.0 (none_first (typed_fault m good.frame.f (Int 1) cond) _ more) in
      let left = on.number_at m s good setting o 1 a is refl resolved.1 (none_first (number_fault m good.frame.f a) _ rest) in
      let right = on.typed_at m s good setting o 2 b (type_of m a.ty) is refl resolved.2 (none_second (number_fault m good.frame.f a) _ rest) in
      let plain : is_terminator here.op ≡ false = ap is_terminator is in
      let given : given_type m here.op ≡ type_of m a.ty = ap (λ (x : Op). given_type m x) is in
      integer_good is_good s.shared.births 1 1 (value_of m s cond) _ test (λ c.
      value_good is_good s.shared.births (type_of m a.ty) (if is_set c then value_of m s a else value_of m s b) _ left.0
      (if_has (is_set c) (type_of m a.ty) (value_of m s a) (value_of m s b) left.1 right)
      (λ value typed known. gives_number (type_of m a.ty) value plain given left.0 typed known))

  pub freeze_good : (a : Placed) → here.op ≡ op.Freeze a → IsResolvedOp m good.frame.f (op.Freeze a) → operation_fault m good.frame.f here.place (op.Freeze a) ≡ None
      → IsGoodOutcome m s (freeze_step s here.result (value_of m s a))
  unfolding freeze_step
  freeze_good a is resolved none =
      let from = on.number_at m s good setting (op.Freeze a) 0 a is refl resolved (none_second (number_type_fault m a.ty here.place) (number_fault m good.frame.f a) none) in
      value_good is_good s.shared.births (type_of m a.ty) (value_of m s a) _ from.0 from.1
      (λ value typed known. gives_number (type_of m a.ty) value (ap is_terminator is) (ap (λ (x : Op). given_type m x) is) from.0 typed known)

  -- ---- parts of pairs

  part_width : (part : ℕ) (w : ℕ) → (v : ℕ) × (part_of (Some part) (Pair w) ≡ Int v)
  part_width zero w = (w, refl)
  part_width (suc part) w = (1, refl)

  pub extract_good : (pair : Placed) (part : Option ℕ) → here.op ≡ op.ExtractValue pair part → IsResolvedOp m good.frame.f (op.ExtractValue pair part)
      → operation_fault m good.frame.f here.place (op.ExtractValue pair part) ≡ None
      → IsGoodOutcome m s (extract_step s here.result part (value_of m s pair))
  unfolding extract_step
  extract_good pair None is resolved none =
      let ok = both (is_pair (type_of m pair.ty)) false (holds (is_pair (type_of m pair.ty) && false) BadType here.place (none_first _ (unless (is_typed m good.frame.f pair) BadType pair.place) none)) in
      absurd (false_is ok.1)
    where
      false_is : false ≡ true → ⊥
      false_is e = absurd cc
  extract_good pair (Some part) is resolved none =
      let ok = both (is_pair (type_of m pair.ty)) true (holds (is_pair (type_of m pair.ty) && true) BadType here.place (none_first _ (unless (is_typed m good.frame.f pair) BadType pair.place) none)) in
      let typed = holds (is_typed m good.frame.f pair) BadType pair.place (none_second (unless (is_pair (type_of m pair.ty) && true) BadType here.place) _ none) in
      let (w, wide) = pair_type (type_of m pair.ty) ok.0 in
      let v : is_value_type (type_of m pair.ty) ≡ true = ap is_value_type wide in
      let there : slice_get (operands_of here.op) 0 ≡ Some pair = ap (λ (o : Op). slice_get (operands_of o) 0) is in
      let from : HasValue s.shared.births (Pair w) (value_of m s pair) = subst (λ (t : IrType). HasValue s.shared.births t (value_of m s pair)) wide
      (operand_good m s.shared.births s.frame 0 pair good.births good.frame setting there resolved v typed) in
      let (x, narrow) = part_width part w in
      pair_good is_good s.shared.births w (value_of m s pair) _ from (λ n bit.
      gives_integer x _ (ap is_terminator is) (ap (λ (o : Op). given_type m o) is ∙ (ap (λ (t : IrType). part_of (Some part) t) wide ∙ narrow)))
