-- Steps that make pointers aren't stuck.
use Rattle.std.proofs.Common.{◌≡◌, ℕ, suc, ◌+◌, ◌<◌, List, [], ◌∷◌, length, slice_get, Option, Some, None, refl, ap, arith}
use Rattle.std.specs.Prelude.{option_map}
use Rattle.ir_core.specs.declared.faults.Fault.TheVariants.{BadType}
use Rattle.ir_core.specs.declared.ir_module.Function.{Function}
use Rattle.ir_core.specs.declared.ir_module.Inst.{Inst}
use Rattle.ir_core.specs.declared.ir_module.Module.{Module}
use Rattle.ir_core.specs.declared.operands.Placed.{Placed}
use Rattle.ir_core.specs.declared.operations.Op.{Op}
use Rattle.ir_core.specs.declared.operations.Op.TheVariants as op
use Rattle.ir_core.specs.declared.refusals.Place.{Place}
use Rattle.ir_core.specs.declared.types.IrType.{IrType}
use Rattle.ir_core.specs.declared.types.IrType.TheVariants.{Int, Ptr, Array, Struct}
use Rattle.ir_core.specs.IndexSteps.{AddressStep, scaled_step, step_before, inner_steps, index_steps}
use Rattle.ir_core.specs.NumberTypes.{type_of, bits_of, field_type, constant_number}
use Rattle.ir_core.specs.Operations.{is_terminator, given_type}
use Rattle.ir_core.specs.ResolvedBodies.{IsResolvedOp, IsResolvedPlaced}
use Rattle.ir_check_types.specs.Order.{unless}
use Rattle.ir_check_types.specs.Operands.{integer_fault, typed_fault}
use Rattle.ir_check_types.specs.Instructions.{sized_fault, is_step, step_fault, steps_fault, indices_fault}
use Rattle.ir_check_types.specs.Rules.{operation_fault}
use Rattle.ir_check_types.proofs.PassedRules.{none_first, none_second, holds}
use Rattle.ir_meaning.specs.AddressSteps.{alloca_step, gep_step, scaled_by, step_bytes, steps_bytes, added}
use Rattle.ir_meaning.specs.Births.{Birth}
use Rattle.ir_meaning.specs.InstructionStep.{value_of}
use Rattle.ir_meaning.specs.Operands.{operand_value}
use Rattle.ir_meaning.specs.State.{SourceSeen, SourceOutcome, nothing_happened}
use Rattle.ir_meaning.specs.Values.{Value, Integer, Address, IntegerAndBit}
use Rattle.hw_base.specs.declared.pointers.Base.TheVariants.{Object}
use Rattle.well_typed_runs.specs.KnownValues.{HasValue}
use Rattle.well_typed_runs.specs.GoodFrames.{HasVariables}
use Rattle.well_typed_runs.specs.GoodWorlds.{IsGoodSeen, IsGoodOutcome}
use Rattle.well_typed_runs.proofs.Blocks.{all_at}
use Rattle.well_typed_runs.proofs.Settings.{IsSetting}
use Rattle.well_typed_runs.proofs.GoingOn as on
use Rattle.well_typed_runs.proofs.Values.{pointer_good, named_good}

-- ---- what indices add

-- the integer of an index
abbrev HasInteger : Module → List Birth → List (Option Value) → Placed → Type 0
HasInteger m births registers index = (w : ℕ) × (type_of m index.ty ≡ Int w) × HasValue births (Int w) (operand_value m registers index)

scaled_has : (births : List Birth) (width size w : ℕ) (found : Option Value) → HasValue births (Int w) found → (n : ℕ) × (scaled_by width size found ≡ Some n)
scaled_has births width size w None h = absurd h
scaled_has births width size w (Some (Integer n)) h = (_, refl)
scaled_has births width size w (Some (Address base off)) h = let e = h.0 in absurd cc
scaled_has births width size w (Some (IntegerAndBit n bit)) h = let e = h.0 in absurd cc

-- the steps are there, and so is what they add
record HasSteps (m : Module) (registers : List (Option Value)) (found : Option (List AddressStep)) : Type 0 where
  steps : List AddressStep
  is : found ≡ Some steps
  bytes : ℕ
  add : steps_bytes m registers steps ≡ Some bytes

added_has : (a b : Option ℕ) (x y : ℕ) → a ≡ Some x → b ≡ Some y → (n : ℕ) × (added a b ≡ Some n)
added_has a b x y e h = (x + y, rw (e, h) refl)

step_has : (m : Module) (registers : List (Option Value)) (step : AddressStep) (found : Option (List AddressStep)) (n : ℕ) → step_bytes m registers step ≡ Some n
    → HasSteps m registers found → HasSteps m registers (step_before step found)
unfolding steps_bytes
step_has m registers step found n e h =
    let (sum, is) = added_has (step_bytes m registers step) (steps_bytes m registers h.steps) n h.bytes e h.add in
    record {
      steps = step ∷ h.steps;
      is = ap (λ (o : Option (List AddressStep)). option_map (λ more. step ∷ more) o) h.is;
      bytes = sum;
      add = is;
    }

no_more : (m : Module) (registers : List (Option Value)) → HasSteps m registers (Some [])
unfolding steps_bytes
no_more m registers = record { steps = []; is = refl; bytes = 0; add = refl }

scaled_step_has : (m : Module) (births : List Birth) (registers : List (Option Value)) (index : Placed) (ty : ℕ) → HasInteger m births registers index
    → (n : ℕ) × (step_bytes m registers (scaled_step m index ty) ≡ Some n)
scaled_step_has m births registers index ty (w, wide, has) = scaled_has births (bits_of (type_of m index.ty)) _ w (operand_value m registers index) has

inner_has : (m : Module) (births : List Birth) (registers : List (Option Value)) (f : Function) (type : IrType) (indices : List Placed)
    → ((k : ℕ) (index : Placed) → slice_get indices k ≡ Some index → integer_fault m f index ≡ None → HasInteger m births registers index)
    → steps_fault m f type indices ≡ None → HasSteps m registers (inner_steps m type indices)
unfolding inner_steps
inner_has m births registers f type [] values none = no_more m registers
inner_has m births registers f (Array count item) (index ∷ indices) values none =
    let here = none_first (step_fault m f (Array count item) index) _ none in
    let value = values 0 index refl (none_first (integer_fault m f index) _ here) in
    let (n, e) = scaled_step_has m births registers index item value in
    step_has m registers (scaled_step m index item) (inner_steps m (type_of m item) indices) n e
    (inner_has m births registers f (type_of m item) indices (λ k x at. values (suc k) x at) (none_second (step_fault m f (Array count item) index) _ none))
inner_has m births registers f (Struct first count packed) (index ∷ indices) values none =
    step_has m registers _ (inner_steps m (type_of m (field_type m first (constant_number index.operand))) indices) _ refl
    (inner_has m births registers f (type_of m (field_type m first (constant_number index.operand))) indices (λ k x at. values (suc k) x at)
    (none_second (step_fault m f (Struct first count packed) index) _ none))
inner_has m births registers f other (index ∷ indices) values none =
    let here = none_first (step_fault m f other index) _ none in
    let ok = holds (is_step m other index) BadType index.place (none_second (integer_fault m f index) (unless (is_step m other index) BadType index.place) here) in
    absurd cc

all_has : (m : Module) (births : List Birth) (registers : List (Option Value)) (f : Function) (place : Place) (ty : ℕ) (indices : List Placed)
    → ((k : ℕ) (index : Placed) → slice_get indices k ≡ Some index → integer_fault m f index ≡ None → HasInteger m births registers index)
    → indices_fault m f place ty indices ≡ None → HasSteps m registers (index_steps m ty indices)
all_has m births registers f place ty [] values none = no_more m registers
all_has m births registers f place ty (index ∷ indices) values none =
    let more = none_second (sized_fault m ty place) _ none in
    let value = values 0 index refl (none_first (integer_fault m f index) _ more) in
    let (n, e) = scaled_step_has m births registers index ty value in
    step_has m registers (scaled_step m index ty) (inner_steps m (type_of m ty) indices) n e
    (inner_has m births registers f (type_of m ty) indices (λ k x at. values (suc k) x at) (none_second (integer_fault m f index) _ more))

module _ (m : Module) (s : SourceSeen) (good : IsGoodSeen m s) (setting : IsSetting m good.frame.f good.frame.at.inst) where
  abbrev here : Inst
  here = good.frame.at.inst

  abbrev is_good : SourceOutcome → Type 0
  is_good outcome = IsGoodOutcome m s outcome

  -- ---- variables

  pub alloca_good : (index ty : ℕ) (count : Option Placed) → here.op ≡ op.Alloca index ty count → IsResolvedOp m good.frame.f (op.Alloca index ty count)
      → IsGoodOutcome m s (alloca_step s here.result index)
  unfolding alloca_step
  alloca_good index ty count is resolved = by_birth s.frame.birth refl good.frame.variables
    where
      none-below : (xs : List ℕ) (k : ℕ) → k < length xs → xs ≡ [] → ⊥
      none-below [] k h e = omega arith
      none-below (x ∷ xs) k h e = absurd cc

      by_birth : (birth : Option ℕ) → s.frame.birth ≡ birth → HasVariables s.shared.births good.frame.f.allocas birth → IsGoodOutcome m s (alloca_step s here.result index)
      by_birth None e h = absurd (none-below good.frame.f.allocas index resolved.0 h)
      by_birth (Some n) e h =
          named_good is_good s.frame.birth n _ e
          (on.gives_good m s good setting Ptr (Address (Object (record { birth = n; index = index })) 0) nothing_happened (ap is_terminator is) (ap (λ (o : Op). given_type m o) is) refl refl
          (h.0 index resolved.0))

  -- ---- address computations

  pub gep_good : (ty : ℕ) (base : Placed) (indices : List Placed) → here.op ≡ op.Gep ty base indices → IsResolvedOp m good.frame.f (op.Gep ty base indices)
      → operation_fault m good.frame.f here.place (op.Gep ty base indices) ≡ None
      → IsGoodOutcome m s (gep_step m s here.result ty (value_of m s base) indices)
  unfolding gep_step
  gep_good ty base indices is resolved none =
      let o : Op = op.Gep ty base indices in
      let from = on.typed_at m s good setting o 0 base Ptr is refl resolved.1 (none_first (typed_fault m good.frame.f Ptr base) (indices_fault m good.frame.f here.place ty indices) none) in
      let steps = all_has m s.shared.births s.frame.registers good.frame.f here.place ty indices
      (λ k index at e. on.integer_at m s good setting o (suc k) index is at (all_at (IsResolvedPlaced m good.frame.f) indices k index resolved.2 at) e)
      (none_second (typed_fault m good.frame.f Ptr base) (indices_fault m good.frame.f here.place ty indices) none) in
      pointer_good is_good s.shared.births (value_of m s base) _ from (λ b off known.
      named_good is_good (index_steps m ty indices) steps.steps _ steps.is
      (named_good is_good (steps_bytes m s.frame.registers steps.steps) steps.bytes _ steps.add
      (on.gives_good m s good setting Ptr _ nothing_happened (ap is_terminator is) (ap (λ (x : Op). given_type m x) is) refl refl known)))
