-- Branches aren't stuck, and lead to a block where the frame is as it should be.
use Rattle.std.proofs.Common.{◌≡◌, ℕ, zero, suc, ◌+◌, ◌-◌, ◌<◌, List, [], ◌∷◌, map, take, drop, get_or, slice_get, Some, None, Bool, true, false, ◌==◌, if◌then◌else◌, refl, sym, ◌∙◌, ap, subst, arith}
use Rattle.std.specs.List.{All, Contains}
use Rattle.hw_base.specs.Bits.{is_set}
use Rattle.ir_core.specs.declared.ir_module.Block.{Block}
use Rattle.ir_core.specs.declared.ir_module.Function.{Function}
use Rattle.ir_core.specs.declared.ir_module.Inst.{Inst}
use Rattle.ir_core.specs.declared.ir_module.Module.{Module}
use Rattle.ir_core.specs.declared.operands.Case.{Case}
use Rattle.ir_core.specs.declared.operands.Placed.{Placed}
use Rattle.ir_core.specs.declared.operations.Op.{Op}
use Rattle.ir_core.specs.declared.operations.Op.TheVariants as op
use Rattle.ir_core.specs.declared.types.IrType.TheVariants.{Int}
use Rattle.ir_core.specs.Blocks.{block_holding, phis_of, start_of}
use Rattle.ir_core.specs.NumberTypes.{constant_number}
use Rattle.ir_core.specs.Operations.{is_terminator, is_value_type, given_type}
use Rattle.ir_core.specs.ResolvedBodies.{IsResolvedCase, IsResolvedOp, IsTarget}
use Rattle.ir_core.specs.Runnable.{HasPhisFirst}
use Rattle.ir_check_types.specs.Operands.{integer_fault}
use Rattle.ir_check_types.specs.Rules.{name_fault, operation_fault}
use Rattle.ir_check_types.proofs.PassedRules.{none_first, none_second}
use Rattle.ir_check_flow.specs.Flow.{IsIn}
use Rattle.ir_check_flow.specs.Ways.{targets_of, onward}
use Rattle.ir_check_flow.proofs.HomesFound.{taken_from, dropped_from}
use Rattle.ir_meaning.specs.BranchSteps.{phi_values, with_results, goes_to, br_step, br_if_step, switch_target, switch_step}
use Rattle.ir_meaning.specs.InstructionStep.{value_of, width_at}
use Rattle.ir_meaning.specs.State.{SourceSeen, SourceOutcome}
use Rattle.well_typed_runs.specs.GoodFrames.{IsAt, IsUnset, AreGoodRegisters}
use Rattle.well_typed_runs.specs.GoodWorlds.{IsAccepted, IsGoodSeen, IsGoodOutcome}
use Rattle.well_typed_runs.proofs.Blocks.{all_at, block_at, get_at}
use Rattle.well_typed_runs.proofs.Edges.{holding_here, leads_here, not_defined, HasPhiValue, phi_has, HasPhiValues, all_phis, results-count, results-typed, results-known, results-none}
use Rattle.well_typed_runs.proofs.GoingOn as on
use Rattle.well_typed_runs.proofs.Settings.{IsSetting, no_result, instruction_typed}
use Rattle.well_typed_runs.proofs.Values.{integer_good, named_good}

module _ (m : Module) (s : SourceSeen) (accepted : IsAccepted m) (good : IsGoodSeen m s) (setting : IsSetting m good.frame.f good.frame.at.inst) where
  abbrev here : Inst
  here = good.frame.at.inst

  abbrev f : Function
  f = good.frame.f

  abbrev at : IsAt good.frame.f s.frame.inst
  at = good.frame.at

  abbrev is_good : SourceOutcome → Type 0
  is_good outcome = IsGoodOutcome m s outcome

  -- ---- the phis of the target

  -- phi number k of a block is one of its instructions
  phi_inside : (target k : ℕ) (block : Block) (phi : Inst) → slice_get f.blocks target ≡ Some block → slice_get (phis_of f.insts block) k ≡ Some phi
      → (k < block.phis) × (slice_get f.insts (block.first + k) ≡ Some phi)
  phi_inside target k block phi there e =
      let two = taken_from (drop block.first f.insts) block.phis k phi e in
      (two.0, sym (dropped_from f.insts block.first k) ∙ two.1)

  phi_value_has : (target k : ℕ) (block : Block) (phi : Inst) → is_terminator here.op ≡ true → here.result ≡ None → Contains (targets_of here.op) target
      → slice_get f.blocks target ≡ Some block → slice_get (phis_of f.insts block) k ≡ Some phi → HasPhiValue m s.shared.births f s.frame.registers at.b phi
  phi_value_has target k block phi end none contains there e =
      let two = phi_inside target k block phi there e in
      let whole = block_at m f target block setting.whole there in
      let few = whole.phis in
      let low = two.0 in
      let inside : IsIn f target (block.first + k) block phi = record { at = there; from = omega arith; to = omega arith; there = two.1 } in
      let typed = instruction_typed m s.frame.func f (block.first + k) phi accepted good.frame.there two.1 in
      phi_has m s.shared.births f s.frame.inst s.frame.registers good.births setting.whole at end none good.frame.registers setting.uses setting.entries
      target (block.first + k) block phi (leads_here m f s.frame.inst target setting.whole at end contains) inside
      (whole.leading (block.first + k) phi (omega arith) (omega arith) two.1)
      (all_at (λ (x : Inst). IsResolvedOp m f x.op) f.insts (block.first + k) phi setting.whole.instructions two.1)
      (none_second (name_fault m phi) (operation_fault m f phi.place phi.op) typed)

  -- ---- the frame at the target

  start_at : (target : ℕ) (block : Block) → is_terminator here.op ≡ true → Contains (targets_of here.op) target → slice_get f.blocks target ≡ Some block → IsAt f (start_of block)
  start_at target block end contains there =
      let whole = block_at m f target block setting.whole there in
      let few = whole.phis in
      let all = whole.inside in
      let found : slice_get f.insts (start_of block) ≡ Some (get_or f.insts (start_of block) here) = get_at f.insts (start_of block) here (omega arith) in
      record {
        b = target;
        block = block;
        inst = get_or f.insts (start_of block) here;
        before = at.b ∷ at.before;
        path = onward at.b target at.before at.path (leads_here m f s.frame.inst target setting.whole at end contains);
        inside = record { at = there; from = omega arith; to = omega arith; there = found };
        no_phi = all_at (HasPhisFirst f.insts) f.blocks target block setting.phis there (start_of block) (get_or f.insts (start_of block) here) (omega arith) (omega arith) found;
      }

  unset_at : (target r : ℕ) (block : Block) → is_terminator here.op ≡ true → here.result ≡ None → slice_get f.blocks target ≡ Some block → IsUnset f at.before at.block s.frame.inst r
      → ((k : ℕ) (phi : Inst) → slice_get (phis_of f.insts block) k ≡ Some phi → phi.result ≡ Some r → ⊥) → IsUnset f (at.b ∷ at.before) block (start_of block) r
  unset_at target r block end none there unset others =
      record {
        later = unset.later;
        none = (λ d. not_defined m f s.frame.inst r setting.whole at end none unset d, unset.none);
        not_before = λ j x from to found gives.
            let number : block.first + (j - block.first) ≡ j = omega arith in
            let low : j - block.first < block.phis = omega arith in
            others (j - block.first) x (phi_there (j - block.first) block x low (ap (λ (k : ℕ). slice_get f.insts k) number ∙ found)) gives;
      }
    where
      taken-get : {A : Type 0} (xs : List A) (n k : ℕ) (x : A) → k < n → slice_get xs k ≡ Some x → slice_get (take n xs) k ≡ Some x
      taken-get [] n k x h e = absurd cc
      taken-get (y ∷ xs) zero k x h e = absurd (omega arith)
      taken-get (y ∷ xs) (suc n) zero x h e = e
      taken-get (y ∷ xs) (suc n) (suc k) x h e = taken-get xs n k x (omega arith) e

      phi_there : (k : ℕ) (block : Block) (x : Inst) → k < block.phis → slice_get f.insts (block.first + k) ≡ Some x → slice_get (phis_of f.insts block) k ≡ Some x
      phi_there k block x low found = taken-get (drop block.first f.insts) block.phis k x low (dropped_from f.insts block.first k ∙ found)

  registers_at : (target : ℕ) (block : Block) (end : is_terminator here.op ≡ true) (none : here.result ≡ None) (contains : Contains (targets_of here.op) target)
      (there : slice_get f.blocks target ≡ Some block) (has : HasPhiValues m s.shared.births f s.frame.registers at.b (phis_of f.insts block))
      → AreGoodRegisters m s.shared.births f (start_at target block end contains there).before (start_at target block end contains there).block (start_of block)
      (with_results s.frame.registers has.values)
  unfolding start_at
  registers_at target block end none contains there has =
      record {
        count = results-count m s.shared.births f s.frame.registers has.values ∙ good.frame.registers.count;
        typed = results-typed m s.shared.births f s.frame.registers (phis_of f.insts block) has.values has.fit good.frame.registers.typed;
        known = results-known m s.shared.births f s.frame.registers (phis_of f.insts block) has.values has.fit good.frame.registers.known;
        unset = λ r e.
            let two = results-none m s.shared.births f s.frame.registers (phis_of f.insts block) has.values r has.fit e in
            unset_at target r block end none there (good.frame.registers.unset r two.1) two.0;
      }

  -- ---- edges

  pub edge_good : (target : ℕ) → is_terminator here.op ≡ true → is_value_type (given_type m here.op) ≡ false → Contains (targets_of here.op) target → IsTarget f target
      → IsGoodOutcome m s (goes_to m f s target)
  edge_good target end given contains goal =
      let none = no_result m f here setting given in
      let block : Block = get_or f.blocks target at.block in
      let there : slice_get f.blocks target ≡ Some block = get_at f.blocks target at.block goal.there in
      let has = all_phis m s.shared.births f s.frame.registers at.b (phis_of f.insts block) (λ k phi e. phi_value_has target k block phi end none contains there e) in
      let from : block_holding f.blocks s.frame.inst ≡ at.b = holding_here m f s.frame.inst setting.whole at in
      let values : phi_values m s.frame.registers (block_holding f.blocks s.frame.inst) (phis_of f.insts block) ≡ Some has.values =
      ap (λ (k : ℕ). phi_values m s.frame.registers k (phis_of f.insts block)) from ∙ has.is in
      named_good is_good (slice_get f.blocks target) block _ there
      (named_good is_good (phi_values m s.frame.registers (block_holding f.blocks s.frame.inst) (phis_of f.insts block)) has.values _ values
      (record {
        births = good.births;
        grow = on.births-same m s good setting;
        small = λ without small. small;
        frames = (
          record {
            f = f;
            there = good.frame.there;
            at = start_at target block end contains there;
            registers = registers_at target block end none contains there has;
            variables = good.frame.variables;
          },
          good.callers,
        );
      }))

  -- ---- branches

  contains_at : (o : Op) (target : ℕ) → here.op ≡ o → Contains (targets_of o) target → Contains (targets_of here.op) target
  contains_at o target is h = subst (λ (x : Op). Contains (targets_of x) target) (sym is) h

  pub br_good : (block : ℕ) → here.op ≡ op.Br block → IsResolvedOp m f (op.Br block) → IsGoodOutcome m s (br_step m f s block)
  unfolding br_step
  br_good block is resolved =
      edge_good block (ap is_terminator is) (ap (λ (o : Op). is_value_type (given_type m o)) is) (contains_at (op.Br block) block is (0, omega arith, refl)) resolved

  pub br_if_good : (cond : Placed) (yes_block no_block : ℕ) → here.op ≡ op.BrIf cond yes_block no_block → IsResolvedOp m f (op.BrIf cond yes_block no_block)
      → operation_fault m f here.place (op.BrIf cond yes_block no_block) ≡ None → IsGoodOutcome m s (br_if_step m f s (value_of m s cond) yes_block no_block)
  unfolding br_if_step
  br_if_good cond yes_block no_block is resolved none =
      let o : Op = op.BrIf cond yes_block no_block in
      let test = on.typed_at m s good setting o 0 cond (Int 1) is refl resolved.0 none in
      integer_good is_good s.shared.births 1 1 (value_of m s cond) _ test (λ c. by_test (is_set c))
    where
      by_test : (test : Bool) → IsGoodOutcome m s (goes_to m f s (if test then yes_block else no_block))
      by_test true =
          edge_good yes_block (ap is_terminator is) (ap (λ (x : Op). is_value_type (given_type m x)) is) (contains_at (op.BrIf cond yes_block no_block) yes_block is (0, omega arith, refl)) resolved.1
      by_test false =
          edge_good no_block (ap is_terminator is) (ap (λ (x : Op). is_value_type (given_type m x)) is) (contains_at (op.BrIf cond yes_block no_block) no_block is (1, omega arith, refl)) resolved.2

  -- the block that a number leads to is one of the switch
  record IsChosen (other : ℕ) (cases : List Case) (target : ℕ) : Type 0 where
    listed : Contains (other ∷ map (λ (case : Case). case.block) cases) target
    goal : IsTarget f target

  one_later : (other first target : ℕ) (blocks : List ℕ) → Contains (other ∷ blocks) target → Contains (other ∷ first ∷ blocks) target
  one_later other first target blocks (zero, h, e) = (0, omega arith, e)
  one_later other first target blocks (suc k, h, e) = (suc (suc k), omega arith, e)

  chosen : (n other : ℕ) (cases : List Case) → IsTarget f other → All (IsResolvedCase m f) cases → IsChosen other cases (switch_target n other cases)
  unfolding switch_target
  chosen n other [] last all = record { listed = (0, omega arith, refl); goal = last }
  chosen n other (case ∷ cases) last all = by_test (constant_number case.value.operand == n) (chosen n other cases last (λ k d within. all (suc k) d (omega arith)))
    where
      by_test : (test : Bool) → IsChosen other cases (switch_target n other cases) → IsChosen other (case ∷ cases) (if test then case.block else switch_target n other cases)
      by_test true later = record { listed = (1, omega arith, refl); goal = (all 0 case (omega arith)).block }
      by_test false later =
          record { listed = one_later other case.block (switch_target n other cases) (map (λ (x : Case). x.block) cases) later.listed; goal = later.goal }

  pub switch_good : (on_value : Placed) (other : ℕ) (cases : List Case) → here.op ≡ op.Switch on_value other cases → IsResolvedOp m f (op.Switch on_value other cases)
      → operation_fault m f here.place (op.Switch on_value other cases) ≡ None
      → IsGoodOutcome m s (switch_step m f s (width_at m on_value.ty) (value_of m s on_value) other cases)
  unfolding switch_step
  switch_good on_value other cases is resolved none =
      let o : Op = op.Switch on_value other cases in
      let (w, wide, has) = on.integer_at m s good setting o 0 on_value is refl resolved.0 (none_first (integer_fault m f on_value) _ none) in
      integer_good is_good s.shared.births (width_at m on_value.ty) w (value_of m s on_value) _ has (λ n.
      let one = chosen n other cases resolved.1 resolved.2 in
      edge_good (switch_target n other cases) (ap is_terminator is) (ap (λ (x : Op). is_value_type (given_type m x)) is)
      (contains_at o (switch_target n other cases) is one.listed) one.goal)
