-- Registers after a result, and registers that operands read.
use Rattle.std.proofs.Common.{◌≡◌, ◌≢◌, ◌⊎◌, ℕ, zero, suc, ◌+◌, ◌<◌, List, [], ◌∷◌, length, slice_get, slice_set, slice_index, Option, Some, None, option_map, inl, inr, refl, sym, ◌∙◌, ap, subst, arith}
use Rattle.std.proofs.lemmas.Bool.{cases_eq}
use Rattle.std.proofs.lemmas.List.{length-set}
use Rattle.ir_core.specs.declared.ir_module.Block.{Block}
use Rattle.ir_core.specs.declared.ir_module.Inst.{Inst}
use Rattle.ir_core.specs.declared.ir_module.Function.{Function}
use Rattle.ir_core.specs.declared.ir_module.Module.{Module}
use Rattle.ir_core.specs.declared.operands.Operand.TheVariants.{Reg}
use Rattle.ir_core.specs.declared.operands.Placed.{Placed}
use Rattle.ir_core.specs.declared.refusals.Refusal.{Refusal}
use Rattle.ir_core.specs.NumberTypes.{type_of}
use Rattle.ir_check_flow.specs.Flow.{IsUndefinedUse, use_in_block, operands_of}
use Rattle.ir_meaning.specs.Births.{Birth}
use Rattle.ir_meaning.specs.StepEnds.{with_result}
use Rattle.ir_meaning.specs.Values.{Value}
use Rattle.well_typed_runs.specs.KnownValues.{IsOfType, IsKnownValue}
use Rattle.well_typed_runs.specs.GoodFrames.{IsAt, IsUnset, AreGoodRegisters}

-- ---- lists with an item set

pub get-set_here : {A : Type 0} (xs : List A) (i : ℕ) (y : A) → slice_get (slice_set xs i y) i ≡ option_map (λ _old. y) (slice_get xs i)
get-set_here [] i y = refl
get-set_here (x ∷ xs) zero y = refl
get-set_here (x ∷ xs) (suc i) y = get-set_here xs i y

pub get-set_other : {A : Type 0} (xs : List A) (i j : ℕ) (y : A) → j ≢ i → slice_get (slice_set xs i y) j ≡ slice_get xs j
get-set_other [] i j y h = refl
get-set_other (x ∷ xs) zero zero y h = absurd (h refl)
get-set_other (x ∷ xs) zero (suc j) y h = refl
get-set_other (x ∷ xs) (suc i) zero y h = refl
get-set_other (x ∷ xs) (suc i) (suc j) y h = get-set_other xs i j y (λ e. h (ap suc e))

set_value : (old : Option (Option Value)) (v w : Value) → option_map (λ _old. Some v) old ≡ Some (Some w) → w ≡ v
set_value None v w h = absurd cc
set_value (Some x) v w h = cc

set_none : (old : Option (Option Value)) (v : Value) → option_map (λ _old. Some v) old ≡ Some None → ⊥
set_none None v h = absurd cc
set_none (Some x) v h = absurd cc

-- a register that has a value was just set, or had it before
pub value-cases : (values : List (Option Value)) (r k : ℕ) (v w : Value) → slice_get (slice_set values r (Some v)) k ≡ Some (Some w)
    → ((k ≡ r) × (w ≡ v)) ⊎ (slice_get values k ≡ Some (Some w))
value-cases values r k v w e =
    elim (cases_eq k r) [
      | inl same ↦
          let here : slice_get (slice_set values r (Some v)) r ≡ Some (Some w) = subst (λ i. slice_get (slice_set values r (Some v)) i ≡ Some (Some w)) same e in
          inl (same, set_value (slice_get values r) v w (sym (get-set_here values r (Some v)) ∙ here))
      | inr other ↦ inr (sym (get-set_other values r k (Some v) other) ∙ e)
    ]

-- a register that has none is another one, and had none before
pub none-cases : (values : List (Option Value)) (r k : ℕ) (v : Value) → slice_get (slice_set values r (Some v)) k ≡ Some None
    → (k ≡ r → ⊥) × (slice_get values k ≡ Some None)
none-cases values r k v e =
    elim (cases_eq k r) [
      | inl same ↦
          let here : slice_get (slice_set values r (Some v)) r ≡ Some None = subst (λ i. slice_get (slice_set values r (Some v)) i ≡ Some None) same e in
          absurd (set_none (slice_get values r) v (sym (get-set_here values r (Some v)) ∙ here))
      | inr other ↦ (other, sym (get-set_other values r k (Some v) other) ∙ e)
    ]

-- ---- a result

-- the register of a result has the type of the value
abbrev pub FitsResult : Module → Function → Option ℕ → List Birth → Value → Type 0
FitsResult m f None births value = Unit {0}
FitsResult m f (Some r) births value = IsOfType (type_of m (slice_index f.regs r)) value × IsKnownValue births value

pub result-typed : (m : Module) (births : List Birth) (f : Function) (registers : List (Option Value)) (result : Option ℕ) (value : Value) → FitsResult m f result births value
    → ((r : ℕ) (v : Value) → slice_get registers r ≡ Some (Some v) → IsOfType (type_of m (slice_index f.regs r)) v)
    → (r : ℕ) (v : Value) → slice_get (with_result registers result value) r ≡ Some (Some v) → IsOfType (type_of m (slice_index f.regs r)) v
result-typed m births f registers None value fits h r v e = h r v e
result-typed m births f registers (Some k) value fits h r v e =
    elim (value-cases registers k r value v e) [
      | inl new ↦
          subst (λ (i : ℕ). IsOfType (type_of m (slice_index f.regs i)) v) (sym new.0) (subst (λ (w : Value). IsOfType (type_of m (slice_index f.regs k)) w) (sym new.1) fits.0)
      | inr old ↦ h r v old
    ]

pub result-known : (m : Module) (births : List Birth) (f : Function) (registers : List (Option Value)) (result : Option ℕ) (value : Value) → FitsResult m f result births value
    → ((r : ℕ) (v : Value) → slice_get registers r ≡ Some (Some v) → IsKnownValue births v)
    → (r : ℕ) (v : Value) → slice_get (with_result registers result value) r ≡ Some (Some v) → IsKnownValue births v
result-known m births f registers None value fits h r v e = h r v e
result-known m births f registers (Some k) value fits h r v e =
    elim (value-cases registers k r value v e) [
      | inl new ↦ subst (λ (w : Value). IsKnownValue births w) (sym new.1) fits.1
      | inr old ↦ h r v old
    ]

pub result-count : (registers : List (Option Value)) (result : Option ℕ) (value : Value) → length (with_result registers result value) ≡ length registers
result-count registers None value = refl
result-count registers (Some r) value = length-set registers r (Some value)

-- a register that has none after a result isn't the result's, and had none before
pub result-none : (registers : List (Option Value)) (result : Option ℕ) (value : Value) (r : ℕ) → slice_get (with_result registers result value) r ≡ Some None
    → (result ≡ Some r → ⊥) × (slice_get registers r ≡ Some None)
result-none registers None value r e = (λ is. absurd cc, e)
result-none registers (Some k) value r e =
    let two = none-cases registers k r value e in
    (λ is. let same : k ≡ r = cc in two.0 (sym same), two.1)

-- ---- the next instruction

-- a register that isn't set by an instruction isn't set before the next one
pub unset-next : (f : Function) (before : List ℕ) (block : Block) (i r : ℕ) (inst : Inst) → slice_get f.insts i ≡ Some inst → (inst.result ≡ Some r → ⊥) → IsUnset f before block i r
    → IsUnset f before block (i + 1) r
unset-next f before block i r inst there other h =
    record {
      later = h.later;
      none = h.none;
      not_before = λ j x from to at gives.
          elim (cases_eq j i) [
            | inl same ↦
                let here : slice_get f.insts i ≡ Some x = subst (λ k. slice_get f.insts k ≡ Some x) same at in
                let is : x ≡ inst = cc in
                other (ap (λ (y : Inst). y.result) (sym is) ∙ gives)
            | inr apart ↦ h.not_before j x from (lower j i to apart) at gives
          ];
    }
  where
    lower : (j i : ℕ) → j < i + 1 → (j ≡ i → ⊥) → j < i
    lower j i h k = omega arith

-- registers after the result of the instruction, before the next one
pub with_result-good : (m : Module) (births : List Birth) (f : Function) (before : List ℕ) (block : Block) (i : ℕ) (inst : Inst) (registers : List (Option Value)) (value : Value)
    → slice_get f.insts i ≡ Some inst → FitsResult m f inst.result births value → AreGoodRegisters m births f before block i registers
    → AreGoodRegisters m births f before block (i + 1) (with_result registers inst.result value)
with_result-good m births f before block i inst registers value there fits h =
    record {
      count = result-count registers inst.result value ∙ h.count;
      typed = result-typed m births f registers inst.result value fits h.typed;
      known = result-known m births f registers inst.result value fits h.known;
      unset = λ r e.
          let two = result-none registers inst.result value r e in
          unset-next f before block i r inst there two.0 (h.unset r two.1);
    }

-- the same registers, after an instruction without a result
pub no_result-good : (m : Module) (births : List Birth) (f : Function) (before : List ℕ) (block : Block) (i : ℕ) (inst : Inst) (registers : List (Option Value))
    → slice_get f.insts i ≡ Some inst → inst.result ≡ None → AreGoodRegisters m births f before block i registers → AreGoodRegisters m births f before block (i + 1) registers
no_result-good m births f before block i inst registers there none h =
    record {
      count = h.count;
      typed = h.typed;
      known = h.known;
      unset = λ r e. unset-next f before block i r inst there (λ is. absurd cc) (h.unset r e);
    }

-- ---- uses

-- a register with its value
abbrev pub IsSet : Module → List Birth → Function → List (Option Value) → ℕ → Type 0
IsSet m births f registers r =
    (value : Value) × (slice_get registers r ≡ Some (Some value)) × IsOfType (type_of m (slice_index f.regs r)) value × IsKnownValue births value

pub is_set : (m : Module) (births : List Birth) (f : Function) (before : List ℕ) (block : Block) (i : ℕ) (registers : List (Option Value)) (r : ℕ)
    → AreGoodRegisters m births f before block i registers → r < length f.regs → (IsUnset f before block i r → ⊥) → IsSet m births f registers r
is_set m births f before block i registers r h there defined = by_value (slice_get registers r) refl
  where
    by_value : (found : Option (Option Value)) → slice_get registers r ≡ found → IsSet m births f registers r
    by_value None e = let count = h.count in absurd (missing registers r (omega arith) e)
      where
        missing : (xs : List (Option Value)) (n : ℕ) → n < length xs → slice_get xs n ≡ None → ⊥
        missing [] n k e = omega arith
        missing (x ∷ xs) zero k e = absurd cc
        missing (x ∷ xs) (suc n) k e = missing xs n (omega arith) e
    by_value (Some None) e = absurd (defined (h.unset r e))
    by_value (Some (Some value)) e = (value, e, h.typed r value e, h.known r value e)

-- the register of an operand of an instruction
pub operand_set : (m : Module) (births : List Birth) (f : Function) (i : ℕ) (at : IsAt f i) (registers : List (Option Value)) (n : ℕ) (placed : Placed) (r : ℕ)
    → ((refusal : Refusal) → IsUndefinedUse f refusal → ⊥) → AreGoodRegisters m births f at.before at.block i registers → slice_get (operands_of at.inst.op) n ≡ Some placed
    → placed.operand ≡ Reg r → r < length f.regs → IsSet m births f registers r
operand_set m births f i at registers n placed r flow h there is below =
    is_set m births f at.before at.block i registers r h below (λ unset.
    flow _ (use_in_block at.b i n at.block at.inst placed r at.inside there is unset.later unset.not_before (record { before = at.before; path = at.path; none = unset.none })))
