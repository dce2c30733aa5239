-- Returns aren't stuck, and give the caller a value of the type of its register.
use Rattle.std.proofs.Common.{◌≡◌, ℕ, zero, suc, List, [], ◌∷◌, slice_get, Option, Some, None, true, false, refl, sym, ◌∙◌, ap, subst, inr}
use Rattle.std.specs.Prelude.{option_and_then, option_map}
use Rattle.ir_core.specs.declared.faults.Fault.TheVariants.{BadType}
use Rattle.ir_core.specs.declared.ir_module.Function.{Function}
use Rattle.ir_core.specs.declared.ir_module.Inst.{Inst}
use Rattle.ir_core.specs.declared.ir_module.Module.{Module}
use Rattle.ir_core.specs.declared.operands.Placed.{Placed}
use Rattle.ir_core.specs.declared.operations.Op.{Op}
use Rattle.ir_core.specs.declared.operations.Op.TheVariants as op
use Rattle.ir_core.specs.declared.types.IrType.{IrType}
use Rattle.ir_core.specs.declared.types.IrType.TheVariants.{Void, Int, Ptr, Array, Struct, Opaque, Pair}
use Rattle.ir_core.specs.NumberTypes.{type_of}
use Rattle.ir_core.specs.Operations.{is_terminator, is_value_type, is_number_type, given_type}
use Rattle.ir_core.specs.ResolvedBodies.{IsResolvedOp}
use Rattle.ir_check_types.specs.Order.{unless}
use Rattle.ir_check_types.specs.Operands.{is_same, number_fault}
use Rattle.ir_check_types.specs.Calls.{callee_fault, result_type_fault}
use Rattle.ir_check_types.specs.Rules.{operation_fault}
use Rattle.ir_check_types.proofs.PassedRules.{none_first, none_second, holds}
use Rattle.ir_meaning.specs.Births.{Birth, after_death}
use Rattle.ir_meaning.specs.BirthChanges.{OnlyGrow, same, died}
use Rattle.ir_meaning.specs.CallSteps.{frame_ended, last_return, result_of, instruction_in, call_result, with_returned, returns_to, returned_value, ret_step}
use Rattle.ir_meaning.specs.InstructionStep.{value_of}
use Rattle.ir_meaning.specs.Operands.{optional_value, single, with_named}
use Rattle.ir_meaning.specs.State.{SourceFrame, SourceSeen, SourceOutcome}
use Rattle.ir_meaning.specs.StepEnds.{chain_of, next_instruction}
use Rattle.ir_meaning.specs.Values.{Value}
use Rattle.ir_meaning.proofs.BirthChangeLaws.{change-only_grows}
use Rattle.well_typed_runs.specs.KnownValues.{IsOfType, IsKnownValue, AreGoodBirths, HasValue}
use Rattle.well_typed_runs.specs.GoodFrames.{HasVariables, IsGoodFrame, IsGoodCaller, AreGoodCallers, Calls}
use Rattle.well_typed_runs.specs.GoodWorlds.{IsAccepted, IsGoodSeen, IsGoodOutcome, AreSmall}
use Rattle.well_typed_runs.proofs.KnownBirths.{births_ended, value-grows, small_ended}
use Rattle.well_typed_runs.proofs.GoingOn as on
use Rattle.well_typed_runs.proofs.Settings.{IsSetting, setting_of, no_result, fits, callers-grow, number_is_value}
use Rattle.well_typed_runs.proofs.Values.{integer_good, named_good, single_has, same_type}

-- ---- types of results

same_void : (type other : IrType) → is_same type other ≡ true → is_same other Void ≡ true → is_value_type type ≡ false
same_void Void other e h = refl
same_void (Int w) Void e h = absurd cc
same_void (Int w) (Int v) e h = absurd cc
same_void (Int w) other e h = absurd cc
same_void Ptr Void e h = absurd cc
same_void Ptr Ptr e h = absurd cc
same_void Ptr other e h = absurd cc
same_void (Pair w) Void e h = absurd cc
same_void (Pair w) (Pair v) e h = absurd cc
same_void (Pair w) other e h = absurd cc
same_void (Array count item) other e h = refl
same_void (Struct first count packed) other e h = refl
same_void Opaque other e h = refl

-- a type that is the same as one of numbers
same_number : (type other : IrType) → is_same type other ≡ true → is_number_type other ≡ true → type ≡ other
same_number Void Void e n = absurd cc
same_number Void other e n = absurd cc
same_number (Int w) (Int v) e n = same_type (Int w) (Int v) refl e
same_number (Int w) other e n = absurd cc
same_number Ptr Ptr e n = refl
same_number Ptr other e n = absurd cc
same_number (Pair w) (Pair v) e n = absurd cc
same_number (Pair w) other e n = absurd cc
same_number (Array count item) other e n = absurd cc
same_number (Struct first count packed) other e n = absurd cc
same_number Opaque other e n = absurd cc

other_number : (type other : IrType) → is_same type other ≡ true → is_number_type type ≡ true → type ≡ other
other_number type other e n = same_type type other (number_is_value type n) e

-- ---- the end of a frame

ended_births : (m : Module) (s : SourceSeen) (sizes : List ℕ) (birth : Option ℕ) → AreGoodBirths m s.shared.births → HasVariables s.shared.births sizes birth
    → AreGoodBirths m (frame_ended s birth).births
ended_births m s sizes None good h = good
ended_births m s sizes (Some n) good (born, (birth, there, other)) =
    births_ended m s.shared.births n s.task (chain_of s) good (λ x at global.
    let same_one : birth ≡ x = cc in
    other (ap (λ (b : Birth). b.region) same_one ∙ global))

ended_grow : (s : SourceSeen) (birth : Option ℕ) → OnlyGrow s.shared.births (frame_ended s birth).births
ended_grow s None = change-only_grows s.shared.births s.shared.births [] (same s.shared.births)
ended_grow s (Some n) = change-only_grows s.shared.births (after_death s.shared.births n s.task (chain_of s)) _ (died s.shared.births n s.task (chain_of s))

ended_small : (s : SourceSeen) (birth : Option ℕ) → AreSmall s.shared.births → AreSmall (frame_ended s birth).births
ended_small s None small = small
ended_small s (Some n) small = small_ended s.shared.births n s.task (chain_of s) small

-- a returned value, if there is one, is of the type of the function's result
abbrev IsReturned : Module → List Birth → Function → Option Value → Type 0
IsReturned m births f None = is_same (type_of m f.result) Void ≡ true
IsReturned m births f (Some value) = (is_number_type (type_of m f.result) ≡ true) × IsOfType (type_of m f.result) value × IsKnownValue births value

-- ---- the caller

-- a call whose function returns
record IsReturning (m : Module) (func : ℕ) (o : Op) : Type 0 where
  result : ℕ
  args : List Placed
  is : o ≡ op.Call func result args

returning : (m : Module) (func : ℕ) (o : Op) → Calls func o → IsReturning m func o
returning m func (op.Call callee result args) h = record { result = result; args = args; is = ap (λ (k : ℕ). op.Call k result args) h }
returning m func other h = absurd h

same_function : (caller : SourceFrame) (result : Option ℕ) (value : Option Value) → (next_instruction (with_returned caller result value)).func ≡ caller.func
same_function caller result None = refl
same_function caller result (Some value) = refl

-- a frame at a call, after a value was returned to it
module _ (m : Module) (seen : SourceSeen) (good : IsGoodSeen m seen) (own : IsSetting m good.frame.f good.frame.at.inst) where
  after_call : (later : List Birth) → OnlyGrow seen.shared.births later → is_terminator good.frame.at.inst.op ≡ false → (callee : Function) (type : IrType)
      → given_type m good.frame.at.inst.op ≡ type → is_same type (type_of m callee.result) ≡ true → (value : Option Value) → IsReturned m seen.shared.births callee value
      → IsGoodFrame m later (next_instruction (with_returned seen.frame good.frame.at.inst.result value))
  after_call later grow plain callee type given alike None returned =
      on.frame_without m seen good own later plain grow
      (no_result m good.frame.f good.frame.at.inst own (ap is_value_type given ∙ same_void type (type_of m callee.result) alike returned))
  after_call later grow plain callee type given alike (Some value) returned =
      let equal : type ≡ type_of m callee.result = same_number type (type_of m callee.result) alike returned.0 in
      let number : is_number_type type ≡ true = subst (λ (t : IrType). is_number_type t ≡ true) (sym equal) returned.0 in
      let typed : IsOfType (given_type m good.frame.at.inst.op) value = subst (λ (t : IrType). IsOfType t value) (sym (given ∙ equal)) returned.1 in
      on.frame_with m seen good own later value plain grow
      (fits m good.frame.f seen.frame.inst good.frame.at.inst later value own good.frame.at.inside.there (ap is_value_type given ∙ number_is_value type number) typed
      (value-grows seen.shared.births later value grow returned.2))

module _ (m : Module) (s : SourceSeen) (accepted : IsAccepted m) (good : IsGoodSeen m s) (setting : IsSetting m good.frame.f good.frame.at.inst) where
  abbrev here : Inst
  here = good.frame.at.inst

  abbrev is_good : SourceOutcome → Type 0
  is_good outcome = IsGoodOutcome m s outcome

  abbrev after : List Birth
  after = (frame_ended s s.frame.birth).births

  grow_after : OnlyGrow s.shared.births after
  grow_after = ended_grow s s.frame.birth

  births_after_end : AreGoodBirths m after
  births_after_end = ended_births m s good.frame.f.allocas s.frame.birth good.births good.frame.variables

  -- the frame of the caller after its call
  returned_frame : (caller : SourceFrame) (callers : List SourceFrame) (h : IsGoodCaller m s.shared.births s.frame.func caller) → AreGoodCallers m s.shared.births s.task caller.func callers → (value : Option Value)
      → IsReturned m s.shared.births good.frame.f value → IsGoodFrame m after (next_instruction (with_returned caller (call_result m caller) value))
  returned_frame caller callers h more value returned =
      let frame : IsGoodFrame m s.shared.births caller = h.frame in
      let inst : Inst = frame.at.inst in
      let call = returning m s.frame.func inst.op h.calls in
      let own = setting_of m s.shared.births caller accepted frame in
      let fault = subst (λ (o : Op). operation_fault m frame.f inst.place o ≡ None) call.is own.typed in
      let fault_of = subst (λ (o : Option Function). callee_fault m frame.f inst.place o call.result call.args ≡ None) good.frame.there fault in
      let alike : is_same (type_of m call.result) (type_of m good.frame.f.result) ≡ true =
      holds (is_same (type_of m call.result) (type_of m good.frame.f.result)) BadType inst.place (none_first (result_type_fault m inst.place call.result good.frame.f.result) _ fault_of) in
      let given : given_type m inst.op ≡ type_of m call.result = ap (λ (o : Op). given_type m o) call.is in
      let plain : is_terminator inst.op ≡ false = ap is_terminator call.is in
      let seen : SourceSeen = record s { frame = caller; callers = callers } in
      let seen_good : IsGoodSeen m seen = record { births = good.births; frame = frame; callers = more } in
      let register : call_result m caller ≡ inst.result =
      ap (λ (o : Option Function). result_of (instruction_in o caller.inst)) frame.there ∙ ap result_of frame.at.inside.there in
      subst (λ (r : Option ℕ). IsGoodFrame m after (next_instruction (with_returned caller r value))) (sym register)
      (after_call m seen seen_good own after grow_after plain good.frame.f (type_of m call.result) given alike value returned)

  -- ---- returns

  main_result : s.task ≡ 0 → s.frame.func ≡ m.main → type_of m good.frame.f.result ≡ Int 32
  main_result task is =
      let found : slice_get m.functions m.main ≡ Some good.frame.f = subst (λ (n : ℕ). slice_get m.functions n ≡ Some good.frame.f) is good.frame.there in
      (accepted.runnable.resolved.main good.frame.f found).result

  last_good : (value : Option Value) (task : ℕ) → s.task ≡ task → s.callers ≡ [] → IsReturned m s.shared.births good.frame.f value → IsGoodOutcome m s (last_return s value task)
  last_good value (suc task) is none returned =
      record { births = births_after_end; grow = grow_after; small = λ without small. ended_small s s.frame.birth small; frames = λ zero_task. let e : 0 ≡ suc task = sym zero_task ∙ is in absurd cc }
  last_good value zero is none returned = by_value value returned
    where
      main : type_of m good.frame.f.result ≡ Int 32
      main = main_result is (subst (λ (callers : List SourceFrame). AreGoodCallers m s.shared.births s.task s.frame.func callers) none good.callers is)

      by_value : (value : Option Value) → IsReturned m s.shared.births good.frame.f value → IsGoodOutcome m s (last_return s value 0)
      by_value None h = let no_void : is_same (Int 32) Void ≡ true = subst (λ (t : IrType). is_same t Void ≡ true) main h in absurd cc
      by_value (Some v) h =
          let typed : IsOfType (Int 32) v = subst (λ (t : IrType). IsOfType t v) main h.1 in
          integer_good is_good s.shared.births 32 32 (Some v) _ (typed, h.2) (λ n. inr refl)

  back_good : (value : Option Value) (callers : List SourceFrame) → s.callers ≡ callers → IsReturned m s.shared.births good.frame.f value → IsGoodOutcome m s (returns_to m s value callers)
  back_good value [] is returned = last_good value s.task refl is returned
  back_good value (caller ∷ callers) is returned =
      let all = subst (λ (frames : List SourceFrame). AreGoodCallers m s.shared.births s.task s.frame.func frames) is good.callers in
      record {
        births = births_after_end;
        grow = grow_after;
        small = λ without small. ended_small s s.frame.birth small;
        frames = (
          returned_frame caller callers all.0 all.1 value returned,
          subst (λ (func : ℕ). AreGoodCallers m after s.task func callers) (sym (same_function caller (call_result m caller) value))
              (callers-grow m s.shared.births after s.task caller.func callers grow_after all.1),
        );
      }

  pub ret_good : (value : Option Placed) → here.op ≡ op.Ret value → IsResolvedOp m good.frame.f (op.Ret value) → operation_fault m good.frame.f here.place (op.Ret value) ≡ None
      → IsGoodOutcome m s (ret_step m s (optional_value m s.frame.registers value))
  unfolding ret_step
  ret_good None is resolved none =
      named_good is_good (Some None) None _ refl (back_good None s.callers refl (holds (is_same (type_of m good.frame.f.result) Void) BadType here.place none))
  ret_good (Some placed) is resolved none =
      let alike = holds (is_same (type_of m placed.ty) (type_of m good.frame.f.result)) BadType here.place (none_first _ (number_fault m good.frame.f placed) none) in
      let (number, has) = on.number_at m s good setting (op.Ret (Some placed)) 0 placed is refl resolved
      (none_second (unless (is_same (type_of m placed.ty) (type_of m good.frame.f.result)) BadType here.place) (number_fault m good.frame.f placed) none) in
      by_value placed alike number (value_of m s placed) has
    where
      by_value : (placed : Placed) → is_same (type_of m placed.ty) (type_of m good.frame.f.result) ≡ true → is_number_type (type_of m placed.ty) ≡ true → (found : Option Value)
          → HasValue s.shared.births (type_of m placed.ty) found
          → IsGoodOutcome m s (with_named (option_and_then returned_value (option_map (λ v. Some v) found)) (λ v. returns_to m s v s.callers))
      by_value placed alike number None has = absurd has
      by_value placed alike number (Some v) has =
          let equal : type_of m placed.ty ≡ type_of m good.frame.f.result = other_number (type_of m placed.ty) (type_of m good.frame.f.result) alike number in
          let one : option_and_then (λ (x : Value). Some (Some x)) (single v) ≡ Some (Some v) = ap (λ (x : Option Value). option_and_then (λ (y : Value). Some (Some y)) x) (single_has s.shared.births (type_of m placed.ty) v number has.0) in
          named_good is_good (option_and_then (λ (x : Value). Some (Some x)) (single v)) (Some v) _ one
          (back_good (Some v) s.callers refl
          (subst (λ (t : IrType). is_number_type t ≡ true) equal number, subst (λ (t : IrType). IsOfType t v) equal has.0, has.1))
