-- Calls of defined functions and returns aren't stuck.
use Rattle.std.proofs.Common.{◌≡◌, ℕ, zero, suc, ◌+◌, ◌-◌, ◌<◌, ◌≤◌, List, [], ◌∷◌, ◌++◌, length, map, replicate, take, get_or, slice_get, slice_index, Option, Some, None, Bool, true, false, nat_le, ◌==◌, if◌then◌else◌, refl, sym, ◌∙◌, ap, subst, arith, inl}
use Rattle.std.proofs.lemmas.Bool.Decides.{nat_tests}
use Rattle.std.proofs.lemmas.List.{length-append, length-map, length-replicate}
use Rattle.std.specs.Prelude.{option_and_then}
use Rattle.hw_base.specs.declared.numbers.TheConstants.{MOST_FRAMES, MOST_SIZE}
use Rattle.hw_base.specs.declared.pointers.Site.{Site}
use Rattle.hw_tags.specs.TaskRuns.{Stuck}
use Rattle.ir_core.specs.declared.faults.Fault.TheVariants.{BadType}
use Rattle.ir_core.specs.declared.ir_module.Block.{Block}
use Rattle.ir_core.specs.declared.ir_module.Function.{Function}
use Rattle.ir_core.specs.declared.ir_module.Inst.{Inst}
use Rattle.ir_core.specs.declared.ir_module.Module.{Module}
use Rattle.ir_core.specs.declared.operands.Placed.{Placed}
use Rattle.ir_core.specs.declared.operations.Op.{Op}
use Rattle.ir_core.specs.declared.operations.Op.TheVariants as op
use Rattle.ir_core.specs.NumberTypes.{type_of}
use Rattle.ir_core.specs.Operations.{is_phi, is_number_type}
use Rattle.ir_core.specs.ResolvedBodies.{AreBlocksFrom, IsResolvedOp, IsResolvedPlaced}
use Rattle.ir_core.specs.Runnable.{IsRunnableOp}
use Rattle.ir_check_types.specs.Operands.{typed_fault}
use Rattle.ir_check_types.specs.Calls.{argument_fault, arguments_fault, result_type_fault, count_of_arguments_fault, parameter_types, callee_fault}
use Rattle.ir_check_types.specs.Rules.{operation_fault}
use Rattle.ir_check_types.proofs.PassedRules.{none_first, none_second, holds}
use Rattle.ir_check_flow.specs.Flow.{IsIn, NoneDefines}
use Rattle.ir_check_flow.specs.Phis.{bad_phi}
use Rattle.ir_check_flow.specs.Ways.{entry}
use Rattle.ir_meaning.specs.Births.{Birth, Stack, fresh_birth, fresh_object, object_in, SourceObject}
use Rattle.ir_meaning.specs.BirthChanges.{OnlyGrow, bore, same}
use Rattle.ir_meaning.specs.CallSteps.{Entry, entry_of, entry_frame, on_arguments, call_step}
use Rattle.ir_meaning.specs.InstructionStep.{value_of, values_of}
use Rattle.ir_meaning.specs.Operands.{operand_value, single, single_before, all_single}
use Rattle.ir_meaning.specs.State.{SourceSeen, SourceOutcome}
use Rattle.ir_meaning.specs.StepEnds.{chain_of}
use Rattle.ir_meaning.specs.Values.{Value}
use Rattle.ir_meaning.proofs.BirthChangeLaws.{change-only_grows}
use Rattle.well_typed_runs.specs.KnownValues.{IsOfType, IsKnownValue, AreGoodBirths, HasValue}
use Rattle.well_typed_runs.specs.GoodFrames.{IsAt, HasVariables, IsGoodFrame, Calls}
use Rattle.well_typed_runs.specs.GoodWorlds.{IsAccepted, IsGoodSeen, IsGoodOutcome, AreSmall}
use Rattle.well_typed_runs.proofs.Blocks.{all_at, block_at, get_at, get_below}
use Rattle.well_typed_runs.proofs.KnownBirths.{births_born, value-grows, AreSmallSizes, small_born}
use Rattle.well_typed_runs.proofs.GoingOn as on
use Rattle.well_typed_runs.proofs.Settings.{IsSetting, function_resolved, phis_good, frame-grows, frame-grows-inst, callers-grow, function_runs}
use Rattle.well_typed_runs.proofs.Values.{both, named_good, single_has}

-- ---- the entry of a function

-- the first instruction of a function: its entry block has no phis
pub record IsEntry (f : Function) : Type 0 where
  pub at : IsAt f 0
  pub nothing_before : at.before ≡ []

some_first : {A : Type 0} (xs : List A) → 0 < length xs → (x : A) × (slice_get xs 0 ≡ Some x)
some_first [] h = absurd (omega arith)
some_first (x ∷ xs) h = (x, refl)

begins_at : (insts : List Inst) (blocks : List Block) (block : Block) → AreBlocksFrom insts 0 blocks → slice_get blocks 0 ≡ Some block → block.first ≡ 0
begins_at insts [] block h e = absurd cc
begins_at insts (x ∷ blocks) block h e = let same : x ≡ block = cc in subst (λ (y : Block). y.first ≡ 0) same h.0.first

not_phi : (m : Module) (n : ℕ) (f : Function) (block : Block) (inst : Inst) → IsAccepted m → slice_get m.functions n ≡ Some f → IsIn f 0 0 block inst → (o : Op) → inst.op ≡ o → is_phi o ≡ false
not_phi m n f block inst accepted there inside (op.Phi ty entries) e =
    absurd (phis_good m n f accepted there _ (bad_phi 0 0 ty block inst entries inside e (λ good. let later = good.later in omega arith)))
not_phi m n f block inst accepted there inside other e = refl

pub at_entry : (m : Module) (n : ℕ) (f : Function) → IsAccepted m → slice_get m.functions n ≡ Some f → IsEntry f
at_entry m n f accepted there =
    let resolved = function_resolved m n f accepted there in
    let (block, at) = some_first f.blocks resolved.some_block in
    let whole = block_at m f 0 block resolved at in
    let begins : block.first ≡ 0 = begins_at f.insts f.blocks block resolved.blocks at in
    let few = whole.phis in
    let all = whole.inside in
    let (inst, found) = some_first f.insts (omega arith) in
    let inside : IsIn f 0 0 block inst = record { at = at; from = omega arith; to = omega arith; there = found } in
    record {
      at = record { b = 0; block = block; inst = inst; before = []; path = entry; inside = inside; no_phi = not_phi m n f block inst accepted there inside inst.op refl };
      nothing_before = refl;
    }

-- ---- its registers

none_set : (n r : ℕ) (v : Value) → slice_get (replicate n None) r ≡ Some (Some v) → ⊥
none_set zero r v e = absurd cc
none_set (suc n) zero v e = absurd cc
none_set (suc n) (suc r) v e = none_set n r v e

entry_value : (arguments : List Value) (n r : ℕ) (v : Value) → slice_get (map (λ (value : Value). Some value) arguments ++ replicate n None) r ≡ Some (Some v) → slice_get arguments r ≡ Some v
entry_value [] n r v e = absurd (none_set n r v e)
entry_value (a ∷ arguments) n zero v e = cc
entry_value (a ∷ arguments) n (suc r) v e = entry_value arguments n r v e

entry_none : (arguments : List Value) (n r : ℕ) → slice_get (map (λ (value : Value). Some value) arguments ++ replicate n None) r ≡ Some None → length arguments ≤ r
entry_none [] n r e = omega arith
entry_none (a ∷ arguments) n zero e = absurd cc
entry_none (a ∷ arguments) n (suc r) e = let k = entry_none arguments n r e in omega arith

-- arguments of the types of a function's parameters
abbrev pub ArgumentsFit : Module → List Birth → Function → List Value → Type 0
ArgumentsFit m births f arguments =
    (k : ℕ) (v : Value) → slice_get arguments k ≡ Some v → IsOfType (type_of m (slice_index f.regs k)) v × IsKnownValue births v

-- the frame at the entry of a function
pub entry_good : (m : Module) (births : List Birth) (f : Function) (func : ℕ) (arguments : List Value) (birth : Option ℕ) (chain : List Site) → IsAccepted m → slice_get m.functions func ≡ Some f
    → length arguments ≡ f.params → ArgumentsFit m births f arguments → HasVariables births f.allocas birth → IsGoodFrame m births (entry_frame f func arguments birth chain)
entry_good m births f func arguments birth chain accepted there count fit variables =
    let first = at_entry m func f accepted there in
    let resolved = function_resolved m func f accepted there in
    let few = resolved.registers.parameters in
    record {
      f = f;
      there = there;
      at = first.at;
      registers = record {
        count =
            length-append (map (λ (value : Value). Some value) arguments) (replicate (length f.regs - length arguments) None)
            ∙ counts (length (map (λ (value : Value). Some value) arguments)) (length arguments) (length (replicate {A = Option Value} (length f.regs - length arguments) None)) (length f.regs) f.params
            (length-map arguments (λ (value : Value). Some value)) (length-replicate {A = Option Value} (length f.regs - length arguments) None) count few;
        typed = λ r v e. (fit r v (entry_value arguments (length f.regs - length arguments) r v e)).0;
        known = λ r v e. (fit r v (entry_value arguments (length f.regs - length arguments) r v e)).1;
        unset = λ r e.
            let past = entry_none arguments (length f.regs - length arguments) r e in
            record {
              later = omega arith;
              none = subst (λ (before : List ℕ). NoneDefines f r before) (sym first.nothing_before) tt;
              not_before = λ j x from to at gives. omega arith;
            };
      };
      variables = variables;
    }
  where
    counts : (a b c n p : ℕ) → a ≡ b → c ≡ n - b → b ≡ p → p ≤ n → a + c ≡ n
    counts a b c n p e h k l = omega arith

-- ---- its variables

fresh-there : (sizes : List ℕ) (k : ℕ) → k < length sizes → (x : SourceObject) × (slice_get (map fresh_object sizes) k ≡ Some x)
fresh-there [] k h = absurd (omega arith)
fresh-there (size ∷ sizes) zero h = (fresh_object size, refl)
fresh-there (size ∷ sizes) (suc k) h = fresh-there sizes k (omega arith)

last-get : {A : Type 0} (xs : List A) (x : A) → slice_get (xs ++ x ∷ []) (length xs) ≡ Some x
last-get [] x = refl
last-get (y ∷ xs) x = last-get xs x

-- the variables of a frame are small
pub frame_sizes : (m : Module) (n : ℕ) (f : Function) → IsAccepted m → slice_get m.functions n ≡ Some f → AreSmallSizes f.allocas
frame_sizes m n f accepted there k size at =
    let small : size ≤ MOST_SIZE = all_at (λ (x : ℕ). x ≤ MOST_SIZE) f.allocas k size (function_runs m n f accepted there).variables at in
    omega arith

pub record IsEntered (m : Module) (earlier : List Birth) (sizes : List ℕ) (entry : Entry) : Type 0 where
  pub births : AreGoodBirths m entry.births
  pub grow : OnlyGrow earlier entry.births
  pub small : AreSmallSizes sizes → AreSmall earlier → AreSmall entry.births
  pub variables : HasVariables entry.births sizes entry.birth

pub entered_good : (m : Module) (births : List Birth) (func task : ℕ) (chain : List Site) (sizes : List ℕ) → AreGoodBirths m births → IsEntered m births sizes (entry_of births func task chain sizes)
entered_good m births func task chain [] good =
    record { births = good; grow = change-only_grows births births [] (same births); small = λ sizes small. small; variables = refl }
entered_good m births func task chain (size ∷ sizes) good =
    let fresh : Birth = fresh_birth (Stack func) task chain (size ∷ sizes) in
    let change = bore births (Stack func) task chain (size ∷ sizes) in
    let at : slice_get (births ++ fresh ∷ []) (length births) ≡ Some fresh = last-get births fresh in
    record {
      births = births_born m births (Stack func) task chain (size ∷ sizes) good;
      grow = change-only_grows births (births ++ fresh ∷ []) _ change;
      small = λ sizes_small small. small_born births (Stack func) task chain (size ∷ sizes) sizes_small small;
      variables = (
        λ k h.
            let (x, found) = fresh-there (size ∷ sizes) k h in
            (x, ap (λ (b : Option Birth). object_in b k) at ∙ found),
        (fresh, at, λ e. absurd cc),
      );
    }

-- ---- arguments

pub argument_from : (m : Module) (f : Function) (types : List ℕ) (i : ℕ) (args : List Placed) (k : ℕ) (arg : Placed) → arguments_fault m f types i args ≡ None → slice_get args k ≡ Some arg
    → argument_fault m f (slice_get types (i + k)) arg ≡ None
argument_from m f types i [] k arg none e = absurd cc
argument_from m f types i (x ∷ args) zero arg none e =
    let same : x ≡ arg = cc in
    let here = none_first (argument_fault m f (slice_get types i) x) (arguments_fault m f types (i + 1) args) none in
    let number : i + 0 ≡ i = omega arith in
    rw number (subst (λ (y : Placed). argument_fault m f (slice_get types i) y ≡ None) same here)
argument_from m f types i (x ∷ args) (suc k) arg none e =
    let later = argument_from m f types (i + 1) args k arg (none_second (argument_fault m f (slice_get types i) x) (arguments_fault m f types (i + 1) args) none) e in
    let number : i + 1 + k ≡ i + suc k = omega arith in
    subst (λ (n : ℕ). argument_fault m f (slice_get types n) arg ≡ None) number later

pub arguments_at : (m : Module) (f : Function) (types : List ℕ) (args : List Placed) (k : ℕ) (arg : Placed) → arguments_fault m f types 0 args ≡ None → slice_get args k ≡ Some arg
    → argument_fault m f (slice_get types k) arg ≡ None
arguments_at m f types args k arg none e =
    let h = argument_from m f types 0 args k arg none e in
    let number : 0 + k ≡ k = omega arith in
    subst (λ (n : ℕ). argument_fault m f (slice_get types n) arg ≡ None) number h

-- values that are numbers or pointers, each with a fact
record HasSingles (P : ℕ → Value → Type 0) (i : ℕ) (found : List (Option Value)) : Type 0 where
  values : List Value
  is : all_single found ≡ Some values
  count : length values ≡ length found
  each : (k : ℕ) (v : Value) → slice_get values k ≡ Some v → P (i + k) v

single-both : (a : Option Value) (b : Option (List Value)) (v : Value) (vs : List Value) → option_and_then single a ≡ Some v → b ≡ Some vs → single_before (option_and_then single a) b ≡ Some (v ∷ vs)
single-both a b v vs e h = rw (e, h) refl

all_singles : (P : ℕ → Value → Type 0) (i : ℕ) (found : List (Option Value))
    → ((k : ℕ) (x : Option Value) → slice_get found k ≡ Some x → (v : Value) × (x ≡ Some v) × (single v ≡ Some v) × P (i + k) v) → HasSingles P i found
unfolding all_single
all_singles P i [] h = record { values = []; is = refl; count = refl; each = λ k v e. absurd cc }
all_singles P i (x ∷ found) h =
    let (v, is, one, p) = h 0 x refl in
    let others = all_singles P (i + 1) found (λ k y e.
    let (w, is_w, one_w, q) = h (suc k) y e in
    let number : i + suc k ≡ i + 1 + k = omega arith in
    (w, is_w, one_w, subst (λ (n : ℕ). P n w) number q)) in
    let first : option_and_then single x ≡ Some v = ap (λ (o : Option Value). option_and_then single o) is ∙ one in
    record {
      values = v ∷ others.values;
      is = single-both x (all_single found) v others.values first others.is;
      count = ap (λ k. suc k) others.count;
      each = by_place i v others.values p others.each;
    }
  where
    by_place : (i : ℕ) (v : Value) (vs : List Value) → P (i + 0) v → ((k : ℕ) (w : Value) → slice_get vs k ≡ Some w → P (i + 1 + k) w) → (k : ℕ) (w : Value) → slice_get (v ∷ vs) k ≡ Some w → P (i + k) w
    by_place i v vs p q zero w e = let same : v ≡ w = cc in subst (λ (y : Value). P (i + 0) y) same p
    by_place i v vs p q (suc k) w e = let number : i + 1 + k ≡ i + suc k = omega arith in subst (λ (n : ℕ). P n w) number (q k w e)

-- an item of a mapped list
pub mapped_get : {A B : Type 0} (g : A → B) (xs : List A) (k : ℕ) (y : B) → slice_get (map g xs) k ≡ Some y → (x : A) × (slice_get xs k ≡ Some x) × (y ≡ g x)
mapped_get g [] k y e = absurd cc
mapped_get g (x ∷ xs) zero y e = (x, refl, cc)
mapped_get g (x ∷ xs) (suc k) y e = mapped_get g xs k y e

-- ---- calls

module _ (m : Module) (s : SourceSeen) (accepted : IsAccepted m) (good : IsGoodSeen m s) (setting : IsSetting m good.frame.f good.frame.at.inst) where
  abbrev here : Inst
  here = good.frame.at.inst

  abbrev is_good : SourceOutcome → Type 0
  is_good outcome = IsGoodOutcome m s outcome

  pub by_test : (test : Bool) (a b : SourceOutcome) → IsGoodOutcome m s a → IsGoodOutcome m s b → IsGoodOutcome m s (if test then a else b)
  by_test true a b h k = h
  by_test false a b h k = k

  pub counted_good : (f : Function) (arguments : List Value) (next : SourceOutcome) → length arguments ≡ f.params → IsGoodOutcome m s next → IsGoodOutcome m s (on_arguments f arguments next)
  unfolding on_arguments
  counted_good f arguments next count h =
      let test : (length arguments == f.params) ≡ true = grind (arith, nat_tests) in
      subst (λ (b : Bool). IsGoodOutcome m s (if b then next else Stuck)) (sym test) h

  type_index : (types : List ℕ) (n k : ℕ) → k < n → n ≤ length types → slice_get (take n types) k ≡ Some (slice_index types k)
  type_index [] n k h l = absurd (omega arith)
  type_index (x ∷ types) zero k h l = absurd (omega arith)
  type_index (x ∷ types) (suc n) zero h l = refl
  type_index (x ∷ types) (suc n) (suc k) h l = type_index types n k (omega arith) (omega arith)

  -- an argument of a call has a value of the parameter's type
  argument_has : (func ty : ℕ) (args : List Placed) (callee : Function) (k : ℕ) (arg : Placed) → here.op ≡ op.Call func ty args → IsResolvedOp m good.frame.f (op.Call func ty args)
      → callee_fault m good.frame.f here.place (Some callee) ty args ≡ None → callee.params ≤ length callee.regs → length args ≡ callee.params → slice_get args k ≡ Some arg
      → (is_number_type (type_of m (slice_index callee.regs k)) ≡ true) × HasValue s.shared.births (type_of m (slice_index callee.regs k)) (value_of m s arg)
  argument_has func ty args callee k arg is resolved none few count there =
      let rest = none_second (result_type_fault m here.place ty callee.result) _ none in
      let faults = none_second (count_of_arguments_fault here.place (length args) callee.params) (arguments_fault m good.frame.f (parameter_types callee) 0 args) rest in
      let below = get_below args k arg there in
      let wanted : slice_get (parameter_types callee) k ≡ Some (slice_index callee.regs k) = type_index callee.regs callee.params k (omega arith) few in
      let fault : typed_fault m good.frame.f (type_of m (slice_index callee.regs k)) arg ≡ None =
      subst (λ (o : Option ℕ). argument_fault m good.frame.f o arg ≡ None) wanted (arguments_at m good.frame.f (parameter_types callee) args k arg faults there) in
      let number = (both (is_number_type (type_of m (slice_index callee.regs k))) _ (holds _ BadType arg.place fault)).0 in (
        number,
        on.typed_at m s good setting (op.Call func ty args) k arg (type_of m (slice_index callee.regs k)) is there
            (all_at (IsResolvedPlaced m good.frame.f) args k arg resolved.2 there) fault,
      )

  pub call_good : (func ty : ℕ) (args : List Placed) → here.op ≡ op.Call func ty args → IsResolvedOp m good.frame.f (op.Call func ty args) → IsRunnableOp m (op.Call func ty args)
      → operation_fault m good.frame.f here.place (op.Call func ty args) ≡ None → IsGoodOutcome m s (call_step m s func (values_of m s args))
  unfolding call_step
  call_good func ty args is resolved counts none =
      let callee : Function = get_or m.functions func good.frame.f in
      let there : slice_get m.functions func ≡ Some callee = get_at m.functions func good.frame.f resolved.0 in
      let count = counts callee there in
      let fault = subst (λ (o : Option Function). callee_fault m good.frame.f here.place o ty args ≡ None) there none in
      let whole = function_resolved m func callee accepted there in
      let singles = singles_of func ty args callee is resolved fault whole.registers.parameters count in
      let entry = entry_of s.shared.births func s.task (chain_of s) callee.allocas in
      let entered = entered_good m s.shared.births func s.task (chain_of s) callee.allocas good.births in
      let params : length singles.values ≡ callee.params = singles.count ∙ (length-map args (operand_value m s.frame.registers) ∙ count) in
      named_good is_good (slice_get m.functions func) callee _ there
      (named_good is_good (all_single (values_of m s args)) singles.values _ singles.is
      (counted_good callee singles.values _ params
      (by_test (nat_le MOST_FRAMES (length s.callers + 1)) _ _ (inl refl)
      (record {
        births = entered.births;
        grow = entered.grow;
        small = λ without small. entered.small (frame_sizes m func callee accepted there) small;
        frames = (
          entry_good m entry.births callee func singles.values entry.birth (chain_of s) accepted there params
              (λ k v e. let zero_more : 0 + k ≡ k = omega arith in let two = rw zero_more at (singles.each k v e) in (two.0, value-grows s.shared.births entry.births v entered.grow two.1)) entered.variables,
          (
            (record {
              frame = frame-grows m s.shared.births entry.births s.frame entered.grow good.frame;
              calls = subst (λ (x : Inst). Calls func x.op) (sym (frame-grows-inst m s.shared.births entry.births s.frame entered.grow good.frame)) (subst (λ (o : Op). Calls func o) (sym is) refl);
            }),
            callers-grow m s.shared.births entry.births s.task s.frame.func s.callers entered.grow good.callers,
          ),
        );
      }))))
    where
      singles_of : (func ty : ℕ) (args : List Placed) (callee : Function) → here.op ≡ op.Call func ty args → IsResolvedOp m good.frame.f (op.Call func ty args)
          → callee_fault m good.frame.f here.place (Some callee) ty args ≡ None → callee.params ≤ length callee.regs → length args ≡ callee.params
          → HasSingles (λ k v. IsOfType (type_of m (slice_index callee.regs k)) v × IsKnownValue s.shared.births v) 0 (values_of m s args)
      singles_of func ty args callee is resolved none few count =
          all_singles (λ k v. IsOfType (type_of m (slice_index callee.regs k)) v × IsKnownValue s.shared.births v) 0 (values_of m s args) (λ k x e.
          let (arg, there, value_is) = mapped_get (operand_value m s.frame.registers) args k x e in
          let (number, has) = argument_has func ty args callee k arg is resolved none few count there in
          one_value k x (subst (λ (o : Option Value). HasValue s.shared.births (type_of m (slice_index callee.regs k)) o) (sym value_is) has) number)
        where
          one_value : (k : ℕ) (x : Option Value) → HasValue s.shared.births (type_of m (slice_index callee.regs k)) x → is_number_type (type_of m (slice_index callee.regs k)) ≡ true
              → (v : Value) × (x ≡ Some v) × (single v ≡ Some v) × (IsOfType (type_of m (slice_index callee.regs (0 + k))) v × IsKnownValue s.shared.births v)
          one_value k None has number = absurd has
          one_value k (Some v) has number =
              let zero_more : 0 + k ≡ k = omega arith in
              (v, refl, single_has s.shared.births (type_of m (slice_index callee.regs k)) v number has.0, rw zero_more has)
