-- The start of a task isn't stuck, and its frame is as it should be.
use Rattle.std.proofs.Common.{◌≡◌, ℕ, zero, suc, List, [], ◌∷◌, length, get_or, slice_get, slice_index, Option, Some, None, false, nat_le, refl, sym, ◌∙◌, subst}
use Rattle.std.specs.Prelude.{IfSome}
use Rattle.hw_base.specs.declared.accesses.Access.TheVariants.{Write}
use Rattle.hw_base.specs.declared.numbers.TheConstants.{MOST_TASKS, TASK_NUMBER_SIZE}
use Rattle.hw_base.specs.declared.pointers.Base.{Base}
use Rattle.ir_core.specs.LibraryAccesses.{Fixed}
use Rattle.ir_core.specs.declared.ir_module.Function.{Function}
use Rattle.ir_core.specs.declared.ir_module.Inst.{Inst}
use Rattle.ir_core.specs.declared.ir_module.Module.{Module}
use Rattle.ir_core.specs.declared.operands.StartArg.{StartArg}
use Rattle.ir_core.specs.declared.types.IrType.{IrType}
use Rattle.ir_core.specs.declared.types.IrType.TheVariants.{Int, Ptr}
use Rattle.ir_core.specs.NumberTypes.{type_of}
use Rattle.ir_core.specs.Operations.{is_terminator, given_type}
use Rattle.ir_core.specs.ResolvedBodies.{IsResolvedStart}
use Rattle.ir_core.specs.Runnable.{IsStartFunction, StartsTask}
use Rattle.ir_meaning.specs.Births.{Birth, put_bytes}
use Rattle.ir_meaning.specs.BirthChanges.{OnlyGrow, IsSameBirth, wrote}
use Rattle.ir_meaning.specs.CallSteps.{Entry, entry_of}
use Rattle.ir_meaning.specs.Encoding.{number_bytes}
use Rattle.ir_meaning.specs.LibraryCalls.{on_accesses}
use Rattle.ir_meaning.specs.Operands.{argument}
use Rattle.ir_meaning.specs.State.{SourceSeen, SourceOutcome, nothing_happened, telling}
use Rattle.ir_meaning.specs.StepEnds.{chain_of}
use Rattle.ir_meaning.specs.TaskFunctions.{starts_with, create_step}
use Rattle.ir_meaning.specs.Values.{Value, Integer}
use Rattle.ir_meaning.proofs.BirthChangeLaws.{change-only_grows}
use Rattle.well_typed_runs.specs.KnownValues.{HasValue, IsOfType, IsKnownValue}
use Rattle.well_typed_runs.specs.GoodWorlds.{IsAccepted, IsGoodSeen, IsGoodOutcome}
use Rattle.well_typed_runs.proofs.Blocks.{get_at}
use Rattle.well_typed_runs.proofs.Bytes.{number-known}
use Rattle.well_typed_runs.proofs.CallSteps as calls
use Rattle.well_typed_runs.proofs.CallSteps.{ArgumentsFit, entered_good, entry_good, frame_sizes}
use Rattle.well_typed_runs.proofs.GoingOn as on
use Rattle.well_typed_runs.proofs.KnownBirths.{births_written, value-grows, small_written}
use Rattle.well_typed_runs.proofs.LibrarySteps as library
use Rattle.well_typed_runs.proofs.Settings.{IsSetting, frame-grows}
use Rattle.well_typed_runs.proofs.Values.{pointer_good, value_good, named_good}

same_through : (a b c : Birth) → IsSameBirth a b → IsSameBirth b c → IsSameBirth a c
same_through a b c h k =
    record { region = k.region ∙ h.region; task = k.task ∙ h.task; born = k.born ∙ h.born; sizes = k.sizes ∙ h.sizes; constants = k.constants ∙ h.constants }

pub grow_through : (a b c : List Birth) → OnlyGrow a b → OnlyGrow b c → OnlyGrow a c
grow_through a b c h k number birth e =
    let (mid, there, like) = h number birth e in
    let (last, found, alike) = k number mid there in
    (last, found, same_through birth mid last like alike)

module _ (m : Module) (s : SourceSeen) (accepted : IsAccepted m) (good : IsGoodSeen m s) (setting : IsSetting m good.frame.f good.frame.at.inst) (plain : is_terminator good.frame.at.inst.op ≡ false) where
  abbrev here : Inst
  here = good.frame.at.inst

  abbrev is_good : SourceOutcome → Type 0
  is_good outcome = IsGoodOutcome m s outcome

  -- the argument of the function that the task starts with
  one_argument : (births : List Birth) (f : Function) (value : Value) → IsStartFunction m f → IsOfType Ptr value → IsKnownValue births value → ArgumentsFit m births f (value ∷ [])
  one_argument births f value starts typed known zero v e =
      let same : value ≡ v = cc in
      subst (λ (x : Value). IsOfType (type_of m (slice_index f.regs 0)) x × IsKnownValue births x) same
      (subst (λ (t : IrType). IsOfType t value) (sym starts.parameter) typed, known)
  one_argument births f value starts typed known (suc k) v e = absurd cc

  task_good : (base : Base) (off : ℕ) (f : Function) (func : ℕ) (value : Value) → slice_get m.functions func ≡ Some f → IsStartFunction m f → IsOfType Ptr value
      → IsKnownValue s.shared.births value → given_type m here.op ≡ Int 32
      → IsGoodOutcome m s (starts_with s here.result base off f func value (entry_of s.shared.births func (length s.finished) (chain_of s) f.allocas))
  task_good base off f func value there starts typed known given =
      let entry : Entry = entry_of s.shared.births func (length s.finished) (chain_of s) f.allocas in
      let entered = entered_good m s.shared.births func (length s.finished) (chain_of s) f.allocas good.births in
      let later : List Birth = put_bytes entry.births base off (number_bytes TASK_NUMBER_SIZE (length s.finished)) in
      let written : OnlyGrow entry.births later =
      change-only_grows entry.births later [] (wrote entry.births base off (number_bytes TASK_NUMBER_SIZE (length s.finished))) in (
        on.gives_under m s good setting (record s.shared { births = later }) (Int 32) (Integer 0) (telling entry.news) plain
            (births_written m entry.births base off (number_bytes TASK_NUMBER_SIZE (length s.finished)) entered.births (number-known entry.births TASK_NUMBER_SIZE (length s.finished)))
            (grow_through s.shared.births entry.births later entered.grow written)
            (λ without small.
            small_written entry.births base off (number_bytes TASK_NUMBER_SIZE (length s.finished)) (entered.small (frame_sizes m func f accepted there) small))
            given refl refl tt,
        frame-grows m entry.births later _ written
            (entry_good m entry.births f func (value ∷ []) entry.birth (chain_of s) accepted there (sym starts.one_parameter)
            (one_argument entry.births f value starts typed (value-grows s.shared.births entry.births value entered.grow known)) entered.variables),
      )

  pub create_good : (values : List (Option Value)) (start : Option StartArg) → StartsTask m start → IfSome start (IsResolvedStart m) → HasValue s.shared.births Ptr (argument values 0)
      → HasValue s.shared.births Ptr (argument values 2) → given_type m here.op ≡ Int 32
      → IsGoodOutcome m s (on_accesses s values (Fixed Write 0 TASK_NUMBER_SIZE ∷ []) (create_step m s here.result values start))
  unfolding on_accesses create_step
  create_good values None starts resolved to value given = absurd starts
  create_good values (Some begin) starts resolved to value given =
      let f : Function = get_or m.functions begin.func good.frame.f in
      let there : slice_get m.functions begin.func ≡ Some f = get_at m.functions begin.func good.frame.f resolved.func in
      let is_start : IsStartFunction m f = starts f there in
      library.fixed_good m s good setting plain values Write 0 TASK_NUMBER_SIZE _ to
      (named_good is_good (Some begin) begin _ refl
      (named_good is_good (slice_get m.functions begin.func) f _ there
      (pointer_good is_good s.shared.births (argument values 0) _ to (λ base off known.
      value_good is_good s.shared.births Ptr (argument values 2) _ refl value (λ v typed known_v.
      calls.counted_good m s accepted good setting f (v ∷ []) _ (sym is_start.one_parameter)
      (calls.by_test m s accepted good setting (nat_le MOST_TASKS (length s.finished)) _ _
      (on.gives_good m s good setting (Int 32) (Integer 11) nothing_happened plain given refl refl tt)
      (task_good base off f begin.func v there is_start typed known_v given)))))))
