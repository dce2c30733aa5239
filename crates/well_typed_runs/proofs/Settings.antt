-- What is known of an instruction of an accepted module at which a frame is, and of its operands.
use Rattle.std.proofs.Common.{◌≡◌, ℕ, ◌<◌, inl, inr, List, [], ◌∷◌, length, slice_get, Option, Some, None, true, false, ◌||◌, ◌&&◌, refl, sym, subst}
use Rattle.std.specs.Prelude.{is_none}
use Rattle.std.specs.List.{All}
use Rattle.ir_core.specs.declared.ir_module.Block.{Block}
use Rattle.ir_core.specs.declared.ir_module.Declare.{Declare}
use Rattle.ir_core.specs.declared.ir_module.Function.{Function}
use Rattle.ir_core.specs.declared.ir_module.Inst.{Inst}
use Rattle.ir_core.specs.declared.ir_module.Module.{Module}
use Rattle.ir_core.specs.declared.operands.Operand.{Operand}
use Rattle.ir_core.specs.declared.operands.Placed.{Placed}
use Rattle.ir_core.specs.declared.faults.Fault.TheVariants.{BadType}
use Rattle.ir_core.specs.declared.refusals.Refusal.{Refusal}
use Rattle.ir_core.specs.declared.types.IrType.{IrType}
use Rattle.ir_core.specs.declared.types.IrType.TheVariants.{Void, Int, Ptr, Array, Struct, Opaque, Pair}
use Rattle.ir_core.specs.NumberTypes.{type_of}
use Rattle.ir_core.specs.Operations.{is_value_type, is_number_type, given_type}
use Rattle.ir_core.specs.ResolvedBodies.{IsResolvedFunction, IsResolvedOp, IsResolvedOperand, IsResolvedPlaced}
use Rattle.ir_core.specs.Runnable.{IsRunnableFunction, IsRunnableOp, HasPhisFirst}
use Rattle.ir_check_types.specs.Order.{first_among, unless}
use Rattle.ir_check_types.specs.Operands.{is_integer, is_same, is_typed, number_fault, integer_fault, typed_fault}
use Rattle.ir_check_types.specs.Rules.{operation_fault, name_fault, instruction_fault, instructions_fault, function_fault, declare_fault, global_fault, loop_fault, has_simple_types}
use Rattle.ir_check_types.proofs.PassedRules.{none_first, none_second, holds, none_among}
use Rattle.ir_check_flow.specs.Flow.{IsUndefinedUse, operands_of}
use Rattle.ir_check_flow.specs.Phis.{IsBadPhi}
use Rattle.ir_meaning.specs.Births.{Birth}
use Rattle.ir_meaning.specs.BirthChanges.{OnlyGrow}
use Rattle.ir_meaning.specs.Operands.{operand_value}
use Rattle.ir_meaning.specs.State.{SourceFrame}
use Rattle.ir_meaning.specs.Values.{Value}
use Rattle.well_typed_runs.specs.KnownValues.{IsOfType, IsKnownValue, AreGoodBirths, HasValue}
use Rattle.well_typed_runs.specs.GoodFrames.{AreGoodRegisters, IsGoodFrame, AreGoodCallers, IsGoodTask, Calls}
use Rattle.well_typed_runs.specs.GoodWorlds.{IsAccepted}
use Rattle.well_typed_runs.proofs.Blocks.{all_at}
use Rattle.well_typed_runs.proofs.KnownBirths.{value-grows, variables-grow}
use Rattle.well_typed_runs.proofs.Registers.{FitsResult, operand_set}
use Rattle.well_typed_runs.proofs.Values.{both, operand_has, same_kind}

-- ---- functions of an accepted module

pub function_resolved : (m : Module) (n : ℕ) (f : Function) → IsAccepted m → slice_get m.functions n ≡ Some f → IsResolvedFunction m f
function_resolved m n f accepted e = all_at (IsResolvedFunction m) m.functions n f accepted.runnable.resolved.functions e

pub function_runs : (m : Module) (n : ℕ) (f : Function) → IsAccepted m → slice_get m.functions n ≡ Some f → IsRunnableFunction m f
function_runs m n f accepted e = all_at (IsRunnableFunction m) m.functions n f accepted.runnable.functions e

pub functions_typed : (m : Module) → IsAccepted m → first_among (function_fault m) m.functions ≡ None
functions_typed m accepted =
    none_second (first_among (declare_fault m) m.declares) (first_among (function_fault m) m.functions)
    (none_second (first_among (global_fault m) m.globals) _ (none_second (loop_fault m) _ accepted.types))

pub declares_typed : (m : Module) → IsAccepted m → first_among (declare_fault m) m.declares ≡ None
declares_typed m accepted =
    none_first (first_among (declare_fault m) m.declares) (first_among (function_fault m) m.functions)
    (none_second (first_among (global_fault m) m.globals) _ (none_second (loop_fault m) _ accepted.types))

pub function_typed : (m : Module) (n : ℕ) (f : Function) → IsAccepted m → slice_get m.functions n ≡ Some f → function_fault m f ≡ None
function_typed m n f accepted e =
    all_at (λ (g : Function). function_fault m g ≡ None) m.functions n f (none_among (function_fault m) m.functions (functions_typed m accepted)) e

pub declare_typed : (m : Module) (n : ℕ) (d : Declare) → IsAccepted m → slice_get m.declares n ≡ Some d → declare_fault m d ≡ None
declare_typed m n d accepted e =
    all_at (λ (x : Declare). declare_fault m x ≡ None) m.declares n d (none_among (declare_fault m) m.declares (declares_typed m accepted)) e

pub instruction_typed : (m : Module) (n : ℕ) (f : Function) (i : ℕ) (inst : Inst) → IsAccepted m → slice_get m.functions n ≡ Some f → slice_get f.insts i ≡ Some inst
    → instruction_fault m f inst ≡ None
instruction_typed m n f i inst accepted there e =
    all_at (λ (x : Inst). instruction_fault m f x ≡ None) f.insts i inst
    (none_among (instruction_fault m f) f.insts (none_second (unless (has_simple_types m f) BadType f.place) (instructions_fault m f f.insts) (function_typed m n f accepted there))) e

pub uses_defined : (m : Module) (n : ℕ) (f : Function) → IsAccepted m → slice_get m.functions n ≡ Some f → (refusal : Refusal) → IsUndefinedUse f refusal → ⊥
uses_defined m n f accepted there refusal h = accepted.flow refusal (record { number = n; thing = f; there = there; refused = inl h })

pub phis_good : (m : Module) (n : ℕ) (f : Function) → IsAccepted m → slice_get m.functions n ≡ Some f → (refusal : Refusal) → IsBadPhi f refusal → ⊥
phis_good m n f accepted there refusal h = accepted.flow refusal (record { number = n; thing = f; there = there; refused = inr h })

-- ---- an instruction at which a frame is

-- what is known of it
pub record IsSetting (m : Module) (f : Function) (inst : Inst) : Type 0 where
  pub whole : IsResolvedFunction m f
  pub phis : All (HasPhisFirst f.insts) f.blocks
  pub resolved : IsResolvedOp m f inst.op
  pub runs : IsRunnableOp m inst.op
  pub named : name_fault m inst ≡ None
  pub typed : operation_fault m f inst.place inst.op ≡ None
  pub uses : (refusal : Refusal) → IsUndefinedUse f refusal → ⊥
  pub entries : (refusal : Refusal) → IsBadPhi f refusal → ⊥

pub setting_of : (m : Module) (births : List Birth) (frame : SourceFrame) → IsAccepted m → (good : IsGoodFrame m births frame) → IsSetting m good.f good.at.inst
setting_of m births frame accepted good =
    let resolved = function_resolved m frame.func good.f accepted good.there in
    let runs = function_runs m frame.func good.f accepted good.there in
    let typed = instruction_typed m frame.func good.f frame.inst good.at.inst accepted good.there good.at.inside.there in
    record {
      whole = resolved;
      phis = runs.phis_first;
      resolved = all_at (λ (x : Inst). IsResolvedOp m good.f x.op) good.f.insts frame.inst good.at.inst resolved.instructions good.at.inside.there;
      runs = all_at (λ (x : Inst). IsRunnableOp m x.op) good.f.insts frame.inst good.at.inst runs.instructions good.at.inside.there;
      named = none_first (name_fault m good.at.inst) (operation_fault m good.f good.at.inst.place good.at.inst.op) typed;
      typed = none_second (name_fault m good.at.inst) (operation_fault m good.f good.at.inst.place good.at.inst.op) typed;
      uses = uses_defined m frame.func good.f accepted good.there;
      entries = phis_good m frame.func good.f accepted good.there;
    }

-- ---- results

-- what gives no value has no name
pub no_result : (m : Module) (f : Function) (inst : Inst) → IsSetting m f inst → is_value_type (given_type m inst.op) ≡ false → inst.result ≡ None
no_result m f inst setting none = by_result inst.result (holds (is_none inst.result || is_value_type (given_type m inst.op)) BadType inst.place setting.named)
  where
    by_result : (result : Option ℕ) → (is_none result || is_value_type (given_type m inst.op)) ≡ true → result ≡ None
    by_result None e = refl
    by_result (Some r) e = absurd cc

-- a value of the type that is given fits the register of the result
pub fits : (m : Module) (f : Function) (i : ℕ) (inst : Inst) (births : List Birth) (value : Value) → IsSetting m f inst → slice_get f.insts i ≡ Some inst
    → is_value_type (given_type m inst.op) ≡ true → IsOfType (given_type m inst.op) value → IsKnownValue births value → FitsResult m f inst.result births value
fits m f i inst births value setting there v h k = by_result inst.result refl
  where
    by_result : (result : Option ℕ) → inst.result ≡ result → FitsResult m f result births value
    by_result None e = tt
    by_result (Some r) e = (subst (λ (t : IrType). IsOfType t value) (sym (setting.whole.registers.types i r inst there e v)) h, k)

-- ---- operands

-- an operand of the instruction whose type is one of values
pub operand_good : (m : Module) (births : List Birth) (frame : SourceFrame) (n : ℕ) (placed : Placed) → AreGoodBirths m births → (good : IsGoodFrame m births frame)
    → IsSetting m good.f good.at.inst → slice_get (operands_of good.at.inst.op) n ≡ Some placed → IsResolvedPlaced m good.f placed → is_value_type (type_of m placed.ty) ≡ true
    → is_typed m good.f placed ≡ true → HasValue births (type_of m placed.ty) (operand_value m frame.registers placed)
operand_good m births frame n placed known good setting there resolved v typed =
    operand_has m births good.f frame.registers placed known v resolved.operand typed (λ r is.
    let below : r < length good.f.regs = subst (λ (o : Operand). IsResolvedOperand m good.f o) is resolved.operand in
    operand_set m births good.f frame.inst good.at frame.registers n placed r setting.uses good.registers there is below)

pub number_is_value : (type : IrType) → is_number_type type ≡ true → is_value_type type ≡ true
number_is_value Void e = absurd cc
number_is_value (Int width) e = refl
number_is_value Ptr e = refl
number_is_value (Array count item) e = absurd cc
number_is_value (Struct first count packed) e = absurd cc
number_is_value Opaque e = absurd cc
number_is_value (Pair width) e = absurd cc

-- an operand with no fault as a number
pub number_operand : (m : Module) (births : List Birth) (frame : SourceFrame) (n : ℕ) (placed : Placed) → AreGoodBirths m births → (good : IsGoodFrame m births frame)
    → IsSetting m good.f good.at.inst → slice_get (operands_of good.at.inst.op) n ≡ Some placed → IsResolvedPlaced m good.f placed → number_fault m good.f placed ≡ None
    → (is_number_type (type_of m placed.ty) ≡ true) × HasValue births (type_of m placed.ty) (operand_value m frame.registers placed)
number_operand m births frame n placed known good setting there resolved e =
    let two = both (is_number_type (type_of m placed.ty)) (is_typed m good.f placed) (holds _ BadType placed.place e) in
    (two.0, operand_good m births frame n placed known good setting there resolved (number_is_value (type_of m placed.ty) two.0) two.1)

-- a type of integers
pub record IsWide (type : IrType) : Type 0 where
  pub width : ℕ
  pub is : type ≡ Int width

pub integer_type : (type : IrType) → is_integer type ≡ true → IsWide type
integer_type Void e = absurd cc
integer_type (Int width) e = record { width = width; is = refl }
integer_type Ptr e = absurd cc
integer_type (Array count item) e = absurd cc
integer_type (Struct first count packed) e = absurd cc
integer_type Opaque e = absurd cc
integer_type (Pair width) e = absurd cc

-- an operand with no fault as an integer
pub integer_operand : (m : Module) (births : List Birth) (frame : SourceFrame) (n : ℕ) (placed : Placed) → AreGoodBirths m births → (good : IsGoodFrame m births frame)
    → IsSetting m good.f good.at.inst → slice_get (operands_of good.at.inst.op) n ≡ Some placed → IsResolvedPlaced m good.f placed → integer_fault m good.f placed ≡ None
    → (w : ℕ) × (type_of m placed.ty ≡ Int w) × HasValue births (Int w) (operand_value m frame.registers placed)
integer_operand m births frame n placed known good setting there resolved e =
    let two = both (is_integer (type_of m placed.ty)) (is_typed m good.f placed) (holds _ BadType placed.place e) in
    let wide = integer_type (type_of m placed.ty) two.0 in
    let v : is_value_type (type_of m placed.ty) ≡ true = subst (λ (t : IrType). is_value_type t ≡ true) (sym wide.is) refl in (
      wide.width,
      wide.is,
      subst (λ (t : IrType). HasValue births t (operand_value m frame.registers placed)) wide.is
          (operand_good m births frame n placed known good setting there resolved v two.1),
    )

pub value_same : (births : List Birth) (type wanted : IrType) (found : Option Value) → is_same type wanted ≡ true → HasValue births type found → HasValue births wanted found
value_same births type wanted None e h = absurd h
value_same births type wanted (Some value) e h = (same_kind type wanted value e h.0, h.1)

pub same_value : (type wanted : IrType) → is_same type wanted ≡ true → is_number_type wanted ≡ true → is_value_type type ≡ true
same_value Void Void e v = absurd cc
same_value Void (Int w) e v = absurd cc
same_value Void Ptr e v = absurd cc
same_value Void (Array count item) e v = absurd cc
same_value Void (Struct first count packed) e v = absurd cc
same_value Void Opaque e v = absurd cc
same_value Void (Pair w) e v = absurd cc
same_value (Int width) wanted e v = refl
same_value Ptr wanted e v = refl
same_value (Array count item) wanted e v = absurd cc
same_value (Struct first count packed) wanted e v = absurd cc
same_value Opaque wanted e v = absurd cc
same_value (Pair width) wanted e v = refl

-- an operand with no fault as one of this type
pub typed_operand : (m : Module) (births : List Birth) (frame : SourceFrame) (n : ℕ) (placed : Placed) (type : IrType) → AreGoodBirths m births → (good : IsGoodFrame m births frame)
    → IsSetting m good.f good.at.inst → slice_get (operands_of good.at.inst.op) n ≡ Some placed → IsResolvedPlaced m good.f placed → typed_fault m good.f type placed ≡ None
    → HasValue births type (operand_value m frame.registers placed)
typed_operand m births frame n placed type known good setting there resolved e =
    let two = both (is_number_type type) (is_same (type_of m placed.ty) type && is_typed m good.f placed) (holds _ BadType placed.place e) in
    let more = both (is_same (type_of m placed.ty) type) (is_typed m good.f placed) two.1 in
    value_same births (type_of m placed.ty) type (operand_value m frame.registers placed) more.0
    (operand_good m births frame n placed known good setting there resolved (same_value (type_of m placed.ty) type more.0 two.0) more.1)

-- ---- frames and callers under more births

pub registers-grow : (m : Module) (before after : List Birth) (f : Function) (way : List ℕ) (block : Block) (i : ℕ) (registers : List (Option Value)) → OnlyGrow before after
    → AreGoodRegisters m before f way block i registers → AreGoodRegisters m after f way block i registers
registers-grow m before after f way block i registers grow h =
    record { count = h.count; typed = h.typed; known = λ r value e. value-grows before after value grow (h.known r value e); unset = h.unset }

unfoldable pub frame-grows : (m : Module) (before after : List Birth) (frame : SourceFrame) → OnlyGrow before after → IsGoodFrame m before frame → IsGoodFrame m after frame
frame-grows m before after frame grow h =
    record {
      f = h.f;
      there = h.there;
      at = h.at;
      registers = registers-grow m before after h.f h.at.before h.at.block frame.inst frame.registers grow h.registers;
      variables = variables-grow before after h.f.allocas frame.birth grow h.variables;
    }

pub frame-grows-inst : (m : Module) (before after : List Birth) (frame : SourceFrame) (grow : OnlyGrow before after) (h : IsGoodFrame m before frame)
    → (frame-grows m before after frame grow h).at.inst ≡ h.at.inst
unfolding frame-grows
frame-grows-inst m before after frame grow h = refl

pub callers-grow : (m : Module) (before after : List Birth) (task func : ℕ) (callers : List SourceFrame) → OnlyGrow before after → AreGoodCallers m before task func callers
    → AreGoodCallers m after task func callers
callers-grow m before after task func [] grow h = h
callers-grow m before after task func (caller ∷ callers) grow h = (
  record {
    frame = frame-grows m before after caller grow h.0.frame;
    calls = subst (λ (x : Inst). Calls func x.op) (sym (frame-grows-inst m before after caller grow h.0.frame)) h.0.calls;
  },
  callers-grow m before after task caller.func callers grow h.1,
)

pub task-grows : (m : Module) (before after : List Birth) (task : ℕ) (frames : List SourceFrame) → OnlyGrow before after → IsGoodTask m before task frames → IsGoodTask m after task frames
task-grows m before after task [] grow h = h
task-grows m before after task (frame ∷ callers) grow h = (frame-grows m before after frame grow h.0, callers-grow m before after task frame.func callers grow h.1)
