-- Steps that go on to the next instruction.
use Rattle.std.proofs.Common.{◌≡◌, ℕ, List, [], slice_get, Some, None, true, false, sym, ◌∙◌, ap, subst}
use Rattle.ir_core.specs.declared.ir_module.Inst.{Inst}
use Rattle.ir_core.specs.declared.ir_module.Module.{Module}
use Rattle.ir_core.specs.declared.operands.Placed.{Placed}
use Rattle.ir_core.specs.declared.operations.Op.{Op}
use Rattle.ir_core.specs.declared.types.IrType.{IrType}
use Rattle.ir_core.specs.declared.types.IrType.TheVariants.{Int}
use Rattle.ir_core.specs.NumberTypes.{type_of}
use Rattle.ir_core.specs.Operations.{is_terminator, is_value_type, is_number_type, given_type}
use Rattle.ir_core.specs.ResolvedBodies.{IsResolvedPlaced}
use Rattle.ir_check_types.specs.Operands.{number_fault, integer_fault, typed_fault}
use Rattle.ir_check_flow.specs.Flow.{operands_of}
use Rattle.ir_meaning.specs.Births.{Birth}
use Rattle.ir_meaning.specs.BirthChanges.{same, OnlyGrow}
use Rattle.ir_meaning.specs.Operands.{operand_value}
use Rattle.ir_meaning.specs.State.{SourceShared, SourceSeen, SourceReport}
use Rattle.ir_meaning.specs.StepEnds.{next_instruction, with_result, gives_with, goes_on}
use Rattle.ir_meaning.specs.Values.{Value}
use Rattle.ir_meaning.proofs.BirthChangeLaws.{change-only_grows}
use Rattle.well_typed_runs.specs.KnownValues.{IsOfType, IsKnownValue, AreGoodBirths, HasValue}
use Rattle.well_typed_runs.specs.GoodFrames.{IsGoodFrame}
use Rattle.well_typed_runs.specs.GoodWorlds.{IsGoodSeen, IsGoodOutcome, AreSmall, IsWithoutCalloc}
use Rattle.well_typed_runs.proofs.Blocks.{next_at}
use Rattle.well_typed_runs.proofs.KnownBirths.{variables-grow}
use Rattle.well_typed_runs.proofs.Registers.{FitsResult, with_result-good, no_result-good}
use Rattle.well_typed_runs.proofs.Settings.{IsSetting, no_result, fits, registers-grow, callers-grow, number_operand, integer_operand, typed_operand}

module _ (m : Module) (s : SourceSeen) (good : IsGoodSeen m s) (setting : IsSetting m good.frame.f good.frame.at.inst) where
  -- the instruction at which the frame is, and the births before the step
  abbrev pub here : Inst
  here = good.frame.at.inst

  abbrev pub there : List Birth
  there = s.shared.births

  -- ---- the frame at its next instruction

  pub frame_with : (births : List Birth) (value : Value) → is_terminator here.op ≡ false → OnlyGrow there births → FitsResult m good.frame.f here.result births value
      → IsGoodFrame m births (next_instruction (record s.frame { registers = with_result s.frame.registers here.result value }))
  unfolding next_at
  frame_with births value plain grow ok =
      record {
        f = good.frame.f;
        there = good.frame.there;
        at = next_at m good.frame.f s.frame.inst setting.whole setting.phis good.frame.at plain;
        registers =
            with_result-good m births good.frame.f good.frame.at.before good.frame.at.block s.frame.inst here s.frame.registers value good.frame.at.inside.there ok
            (registers-grow m there births good.frame.f good.frame.at.before good.frame.at.block s.frame.inst s.frame.registers grow good.frame.registers);
        variables = variables-grow there births good.frame.f.allocas s.frame.birth grow good.frame.variables;
      }

  pub frame_without : (births : List Birth) → is_terminator here.op ≡ false → OnlyGrow there births → here.result ≡ None → IsGoodFrame m births (next_instruction s.frame)
  unfolding next_at
  frame_without births plain grow none =
      record {
        f = good.frame.f;
        there = good.frame.there;
        at = next_at m good.frame.f s.frame.inst setting.whole setting.phis good.frame.at plain;
        registers =
            no_result-good m births good.frame.f good.frame.at.before good.frame.at.block s.frame.inst here s.frame.registers good.frame.at.inside.there none
            (registers-grow m there births good.frame.f good.frame.at.before good.frame.at.block s.frame.inst s.frame.registers grow good.frame.registers);
        variables = variables-grow there births good.frame.f.allocas s.frame.birth grow good.frame.variables;
      }

  -- ---- steps

  -- without `calloc`, small objects stay small
  abbrev pub KeepsSmall : List Birth → Type 0
  KeepsSmall later = IsWithoutCalloc m → AreSmall there → AreSmall later

  -- with a result, under other births
  pub gives_under : (shared : SourceShared) (type : IrType) (value : Value) (report : SourceReport) → is_terminator here.op ≡ false → AreGoodBirths m shared.births
      → OnlyGrow there shared.births → KeepsSmall shared.births → given_type m here.op ≡ type → is_value_type type ≡ true → IsOfType type value
      → IsKnownValue shared.births value
      → IsGoodOutcome m s (gives_with (record s { shared = shared }) here.result value report)
  gives_under shared type value report plain births grow small given v typed known =
      record {
        births = births;
        grow = grow;
        small = small;
        frames = (
          frame_with shared.births value plain grow
              (fits m good.frame.f s.frame.inst here shared.births value setting good.frame.at.inside.there
              (subst (λ (t : IrType). is_value_type t ≡ true) (sym given) v) (subst (λ (t : IrType). IsOfType t value) (sym given) typed) known),
          callers-grow m there shared.births s.task s.frame.func s.callers grow good.callers,
        );
      }

  -- without a result, under other births
  pub goes_under : (shared : SourceShared) (report : SourceReport) → is_terminator here.op ≡ false → AreGoodBirths m shared.births → OnlyGrow there shared.births
      → KeepsSmall shared.births → is_value_type (given_type m here.op) ≡ false → IsGoodOutcome m s (goes_on (record s { shared = shared }) report)
  goes_under shared report plain births grow small none =
      record {
        births = births;
        grow = grow;
        small = small;
        frames = (
          frame_without shared.births plain grow (no_result m good.frame.f here setting none),
          callers-grow m there shared.births s.task s.frame.func s.callers grow good.callers,
        );
      }

  pub births-same : OnlyGrow there there
  births-same = change-only_grows there there [] (same there)

  -- with a result, when nothing else happens
  pub gives_good : (type : IrType) (value : Value) (report : SourceReport) → is_terminator here.op ≡ false → given_type m here.op ≡ type → is_value_type type ≡ true
      → IsOfType type value → IsKnownValue there value → IsGoodOutcome m s (gives_with s here.result value report)
  gives_good type value report plain given v typed known = gives_under s.shared type value report plain good.births births-same (λ without small. small) given v typed known

  pub goes_good : (report : SourceReport) → is_terminator here.op ≡ false → is_value_type (given_type m here.op) ≡ false → IsGoodOutcome m s (goes_on s report)
  goes_good report plain none = goes_under s.shared report plain good.births births-same (λ without small. small) none

  -- ---- operands of an operation

  operand_at : (o : Op) (n : ℕ) (placed : Placed) → here.op ≡ o → slice_get (operands_of o) n ≡ Some placed → slice_get (operands_of here.op) n ≡ Some placed
  operand_at o n placed is e = ap (λ (x : Op). slice_get (operands_of x) n) is ∙ e

  pub number_at : (o : Op) (n : ℕ) (placed : Placed) → here.op ≡ o → slice_get (operands_of o) n ≡ Some placed → IsResolvedPlaced m good.frame.f placed
      → number_fault m good.frame.f placed ≡ None → (is_number_type (type_of m placed.ty) ≡ true) × HasValue there (type_of m placed.ty) (operand_value m s.frame.registers placed)
  number_at o n placed is e resolved none = number_operand m there s.frame n placed good.births good.frame setting (operand_at o n placed is e) resolved none

  pub integer_at : (o : Op) (n : ℕ) (placed : Placed) → here.op ≡ o → slice_get (operands_of o) n ≡ Some placed → IsResolvedPlaced m good.frame.f placed
      → integer_fault m good.frame.f placed ≡ None → (w : ℕ) × (type_of m placed.ty ≡ Int w) × HasValue there (Int w) (operand_value m s.frame.registers placed)
  integer_at o n placed is e resolved none = integer_operand m there s.frame n placed good.births good.frame setting (operand_at o n placed is e) resolved none

  pub typed_at : (o : Op) (n : ℕ) (placed : Placed) (type : IrType) → here.op ≡ o → slice_get (operands_of o) n ≡ Some placed → IsResolvedPlaced m good.frame.f placed
      → typed_fault m good.frame.f type placed ≡ None → HasValue there type (operand_value m s.frame.registers placed)
  typed_at o n placed type is e resolved none = typed_operand m there s.frame n placed type good.births good.frame setting (operand_at o n placed is e) resolved none
