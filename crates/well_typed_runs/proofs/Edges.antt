-- Edges between blocks: where they lead, and what phis take on them.
use Rattle.std.proofs.Common.{◌≡◌, ◌⊎◌, inl, inr, ℕ, zero, suc, ◌+◌, ◌-◌, ◌<◌, ◌≤◌, List, [], ◌∷◌, length, slice_get, slice_index, slice_index_or, Option, Some, None, option_map, Bool, true, false, nat_lt, ◌==◌, ◌&&◌, if◌then◌else◌, refl, sym, ◌∙◌, ap, subst, arith, eqb-true}
use Rattle.std.proofs.lemmas.Bool.Decides.{nat_tests}
use Rattle.std.proofs.lemmas.Bool.{cases_eq}
use Rattle.std.proofs.lemmas.Option.{slice_get-map}
use Rattle.std.specs.List.{Contains}
use Rattle.std.specs.Prelude.{option_and_then}
use Rattle.ir_core.specs.declared.faults.Fault.TheVariants.{BadType}
use Rattle.ir_core.specs.declared.ir_module.Block.{Block}
use Rattle.ir_core.specs.declared.ir_module.Function.{Function}
use Rattle.ir_core.specs.declared.ir_module.Inst.{Inst}
use Rattle.ir_core.specs.declared.ir_module.Module.{Module}
use Rattle.ir_core.specs.declared.operands.Operand.{Operand}
use Rattle.ir_core.specs.declared.operands.Operand.TheVariants.{Reg}
use Rattle.ir_core.specs.declared.operands.PhiEntry.{PhiEntry}
use Rattle.ir_core.specs.declared.operands.Placed.{Placed}
use Rattle.ir_core.specs.declared.operations.Op.{Op}
use Rattle.ir_core.specs.declared.operations.Op.TheVariants as op
use Rattle.ir_core.specs.declared.refusals.Refusal.{Refusal}
use Rattle.ir_core.specs.declared.types.IrType.{IrType}
use Rattle.ir_core.specs.Blocks.{block_holding, entry_from}
use Rattle.ir_core.specs.NumberTypes.{type_of}
use Rattle.ir_core.specs.Operations.{is_phi, is_terminator, is_number_type, is_value_type, given_type}
use Rattle.ir_core.specs.ResolvedBodies.{AreBlocksFrom, IsResolvedEntry, IsResolvedFunction, IsResolvedOp, IsResolvedOperand}
use Rattle.ir_check_types.specs.Operands.{is_same, is_typed, typed_fault}
use Rattle.ir_check_types.specs.Instructions.{number_type_fault, entries_fault}
use Rattle.ir_check_types.specs.Rules.{operation_fault}
use Rattle.ir_check_types.proofs.PassedRules.{none_first, none_second, none_among, holds}
use Rattle.ir_check_flow.specs.Flow.{IsIn, IsUndefinedUse, use_in_phi, IsUndefinedAt, Defines, entries_of}
use Rattle.ir_check_flow.specs.Phis.{IsBadPhi, bad_phi}
use Rattle.ir_check_flow.specs.Ways.{ways_of, targets_of, targets_at, block_targets, Leads}
use Rattle.ir_check_flow.proofs.HomesFound.{first_after}
use Rattle.ir_meaning.specs.Births.{Birth}
use Rattle.ir_meaning.specs.BranchSteps.{phi_value, phi_values, value_before, with_results}
use Rattle.ir_meaning.specs.Operands.{operand_value, single}
use Rattle.ir_meaning.specs.StepEnds.{with_result}
use Rattle.ir_meaning.specs.Values.{Value}
use Rattle.well_typed_runs.specs.KnownValues.{IsOfType, IsKnownValue, AreGoodBirths, HasValue}
use Rattle.well_typed_runs.specs.GoodFrames.{IsAt, IsUnset, AreGoodRegisters}
use Rattle.well_typed_runs.proofs.Blocks.{all_at, at_end, block_at}
use Rattle.well_typed_runs.proofs.Registers.{FitsResult, IsSet, is_set, result-typed, result-known, result-count, result-none}
use Rattle.well_typed_runs.proofs.Settings.{value_same, same_value, number_is_value}
use Rattle.well_typed_runs.proofs.Values.{both, operand_has, single_has}

-- ---- the block that holds an instruction

if_then : (test : Bool) (x y : ℕ) → test ≡ true → (if test then x else y) ≡ x
if_then true x y e = refl
if_then false x y e = absurd cc

if_else : (test : Bool) (x y : ℕ) → test ≡ false → (if test then x else y) ≡ y
if_else true x y e = absurd cc
if_else false x y e = refl

below : (i n : ℕ) → i < n → nat_lt i n ≡ true
below i n h = grind (arith, nat_tests)

not_below : (i n : ℕ) → n ≤ i → nat_lt i n ≡ false
not_below i n h = grind (arith, nat_tests)

holding_from : (insts : List Inst) (from : ℕ) (blocks : List Block) (b i : ℕ) (block : Block) → AreBlocksFrom insts from blocks → slice_get blocks b ≡ Some block → block.first ≤ i
    → i < block.first + block.count → block_holding blocks i ≡ b
unfolding block_holding
holding_from insts from [] b i block h e first last = absurd cc
holding_from insts from (x ∷ blocks) zero i block h e first last =
    let same : x ≡ block = cc in
    if_then (nat_lt i (x.first + x.count)) 0 (suc (block_holding blocks i)) (below i (x.first + x.count) (subst (λ (y : Block). i < y.first + y.count) (sym same) last))
holding_from insts from (x ∷ blocks) (suc b) i block h e first last =
    let later = first_after insts (x.first + x.count) blocks b block h.1 e in
    if_else (nat_lt i (x.first + x.count)) 0 (suc (block_holding blocks i)) (not_below i (x.first + x.count) (omega arith))
    ∙ ap (λ k. suc k) (holding_from insts (x.first + x.count) blocks b i block h.1 e first last)

pub holding_here : (m : Module) (f : Function) (i : ℕ) → IsResolvedFunction m f → (at : IsAt f i) → block_holding f.blocks i ≡ at.b
holding_here m f i resolved at = holding_from f.insts 0 f.blocks at.b i at.block resolved.blocks at.inside.at at.inside.from at.inside.to

-- ---- where an edge leads

index_at : {A : Type 0} (xs : List A) (n : ℕ) (d x : A) → slice_get xs n ≡ Some x → slice_index_or xs n d ≡ x
index_at [] n d x e = absurd cc
index_at (y ∷ xs) zero d x e = cc
index_at (y ∷ xs) (suc n) d x e = index_at xs n d x e

-- a target of the terminator of a block is one of the block
pub leads_here : (m : Module) (f : Function) (i target : ℕ) → IsResolvedFunction m f → (at : IsAt f i) → is_terminator at.inst.op ≡ true → Contains (targets_of at.inst.op) target
    → Leads (ways_of f) at.b target
leads_here m f i target resolved at end contains =
    let last = at_end f at.b i at.block at.inst (block_at m f at.b at.block resolved at.inside.at) at.inside end in
    let number : at.block.first + at.block.count - 1 ≡ i = omega arith in
    let there : slice_get f.insts (at.block.first + at.block.count - 1) ≡ Some at.inst = ap (λ (k : ℕ). slice_get f.insts k) number ∙ at.inside.there in
    let targets : block_targets f.insts at.block ≡ targets_of at.inst.op = ap targets_at there in
    let ways : slice_get (ways_of f) at.b ≡ Some (block_targets f.insts at.block) =
    slice_get-map (block_targets f.insts) f.blocks at.b ∙ ap (option_map (block_targets f.insts)) at.inside.at in
    let list : slice_index_or (ways_of f) at.b [] ≡ targets_of at.inst.op = index_at (ways_of f) at.b [] (block_targets f.insts at.block) ways ∙ targets in
    subst (λ (l : List ℕ). Contains l target) (sym list) contains

-- ---- what a block defines at its end

-- at the terminator of a block, a register that isn't set isn't defined in the block
pub not_defined : (m : Module) (f : Function) (i r : ℕ) → IsResolvedFunction m f → (at : IsAt f i) → is_terminator at.inst.op ≡ true → at.inst.result ≡ None
    → IsUnset f at.before at.block i r → Defines f r at.b → ⊥
not_defined m f i r resolved at end none unset d =
    let last = at_end f at.b i at.block at.inst (block_at m f at.b at.block resolved at.inside.at) at.inside end in
    let in_block = d.inside.at in
    let is_block = at.inside.at in
    let same : d.block ≡ at.block = cc in
    let from : at.block.first ≤ d.place = subst (λ (x : Block). x.first ≤ d.place) same d.inside.from in
    let to : d.place < at.block.first + at.block.count = subst (λ (x : Block). d.place < x.first + x.count) same d.inside.to in
    elim (cases_eq d.place i) [
      | inl here ↦
          let found : slice_get f.insts i ≡ Some d.inst = subst (λ (k : ℕ). slice_get f.insts k ≡ Some d.inst) here d.inside.there in
          let is_inst = at.inside.there in
          let is : d.inst ≡ at.inst = cc in
          let gives : at.inst.result ≡ Some r = ap (λ (x : Inst). x.result) (sym is) ∙ d.gives in
          absurd cc
      | inr other ↦ unset.not_before d.place d.inst from (lower d.place i (at.block.first + at.block.count) last to other) d.inside.there d.gives
    ]
  where
    lower : (j i n : ℕ) → i + 1 ≡ n → j < n → (j ≡ i → ⊥) → j < i
    lower j i n e h k = omega arith

-- ---- entries

record IsEntryFrom (from : ℕ) (entries : List PhiEntry) (placed : Placed) : Type 0 where
  number : ℕ
  entry : PhiEntry
  there : slice_get entries number ≡ Some entry
  block : entry.block ≡ from
  value : entry.value ≡ placed

by_entry : (test : Bool) (a : Placed) (b : Option Placed) (placed : Placed) → (if test then Some a else b) ≡ Some placed → ((test ≡ true) × (a ≡ placed)) ⊎ (b ≡ Some placed)
by_entry true a b placed e = inl (refl, cc)
by_entry false a b placed e = inr e

entry_there : (from : ℕ) (entries : List PhiEntry) (placed : Placed) → entry_from from entries ≡ Some placed → IsEntryFrom from entries placed
unfolding entry_from
entry_there from [] placed e = absurd cc
entry_there from (x ∷ entries) placed e =
    elim (by_entry (x.block == from) x.value (entry_from from entries) placed e) [
      | inl first ↦ record { number = 0; entry = x; there = refl; block = eqb-true x.block from first.0; value = first.1 }
      | inr later ↦
          let h = entry_there from entries placed later in
          record { number = suc h.number; entry = h.entry; there = h.there; block = h.block; value = h.value }
    ]

is_equal : (a b : ℕ) → a ≡ b → (a == b) ≡ true
is_equal a b e = grind (arith, nat_tests)

no_entry : (from : ℕ) (entries : List PhiEntry) → entry_from from entries ≡ None → (n : ℕ) (entry : PhiEntry) → slice_get entries n ≡ Some entry → entry.block ≡ from → ⊥
unfolding entry_from
no_entry from [] e n entry there is = absurd cc
no_entry from (x ∷ entries) e n entry there is = by_test (x.block == from) refl e (λ h k at. no_entry from entries h k entry at is) n there
  where
    by_test : (test : Bool) → (x.block == from) ≡ test → (if test then Some x.value else entry_from from entries) ≡ None
        → (entry_from from entries ≡ None → (k : ℕ) → slice_get entries k ≡ Some entry → ⊥) → (n : ℕ) → slice_get (x ∷ entries) n ≡ Some entry → ⊥
    by_test true t h later n at = absurd cc
    by_test false t h later zero at =
        let same : x ≡ entry = cc in
        let yes_it : (x.block == from) ≡ true = is_equal x.block from (ap (λ (y : PhiEntry). y.block) same ∙ is) in
        absurd cc
    by_test false t h later (suc n) at = later h n at

-- ---- the value that a phi takes

-- a phi of a block to which the block of the terminator leads
pub record IsPhiAt (f : Function) (b i : ℕ) (block : Block) (phi : Inst) : Type 0 where
  pub inside : IsIn f b i block phi
  pub is_one : is_phi phi.op ≡ true

-- its value on the edge, for its register
pub record HasPhiValue (m : Module) (births : List Birth) (f : Function) (registers : List (Option Value)) (from : ℕ) (phi : Inst) : Type 0 where
  pub value : Value
  pub is : phi_value m registers from phi.op ≡ Some value
  pub fits : FitsResult m f phi.result births value

module _ (m : Module) (births : List Birth) (f : Function) (i : ℕ) (registers : List (Option Value)) (known : AreGoodBirths m births) (resolved : IsResolvedFunction m f) (at : IsAt f i)
    (end : is_terminator at.inst.op ≡ true) (none : at.inst.result ≡ None) (good : AreGoodRegisters m births f at.before at.block i registers)
    (uses : (refusal : Refusal) → IsUndefinedUse f refusal → ⊥) (entries_good : (refusal : Refusal) → IsBadPhi f refusal → ⊥) where
  -- the register of an entry for this block
  entry_set : (target k n : ℕ) (block : Block) (phi : Inst) (entry : PhiEntry) (r : ℕ) → IsIn f target k block phi → slice_get (entries_of phi.op) n ≡ Some entry → entry.block ≡ at.b
      → entry.value.operand ≡ Reg r → r < length f.regs → IsSet m births f registers r
  entry_set target k n block phi entry r inside there from is below_count =
      is_set m births f at.before at.block i registers r good below_count (λ unset.
      uses _ (use_in_phi target k n block phi entry r inside there is unset.later
      (λ d. not_defined m f i r resolved at end none unset (subst (λ (b : ℕ). Defines f r b) from d))
      (subst (λ (b : ℕ). IsUndefinedAt f r b) (sym from) (record { before = at.before; path = at.path; none = unset.none }))))

  taken_value : (target k ty : ℕ) (block : Block) (phi : Inst) (entries : List PhiEntry) → IsIn f target k block phi → phi.op ≡ op.Phi ty entries → IsResolvedOp m f (op.Phi ty entries)
      → operation_fault m f phi.place (op.Phi ty entries) ≡ None → (placed : Placed) → entry_from at.b entries ≡ Some placed
      → (is_number_type (type_of m ty) ≡ true) × HasValue births (type_of m ty) (operand_value m registers placed)
  taken_value target k ty block phi entries inside is named typed placed e =
      let h = entry_there at.b entries placed e in
      let number = holds (is_number_type (type_of m ty)) BadType phi.place (none_first (number_type_fault m ty phi.place) (entries_fault m f (type_of m ty) entries) typed) in
      let each = none_second (number_type_fault m ty phi.place) (entries_fault m f (type_of m ty) entries) typed in
      let fault : typed_fault m f (type_of m ty) h.entry.value ≡ None =
      all_at (λ (x : PhiEntry). typed_fault m f (type_of m ty) x.value ≡ None) entries h.number h.entry (none_among (λ (x : PhiEntry). typed_fault m f (type_of m ty) x.value) entries each) h.there in
      let resolved_entry = all_at (IsResolvedEntry m f) entries h.number h.entry named.1 h.there in
      let two = both (is_number_type (type_of m ty)) (is_same (type_of m h.entry.value.ty) (type_of m ty) && is_typed m f h.entry.value) (holds _ BadType h.entry.value.place fault) in
      let more = both (is_same (type_of m h.entry.value.ty) (type_of m ty)) (is_typed m f h.entry.value) two.1 in
      let listed : slice_get (entries_of phi.op) h.number ≡ Some h.entry = ap (λ (o : Op). slice_get (entries_of o) h.number) is ∙ h.there in
      let has : HasValue births (type_of m h.entry.value.ty) (operand_value m registers h.entry.value) =
      operand_has m births f registers h.entry.value known (same_value (type_of m h.entry.value.ty) (type_of m ty) more.0 two.0) resolved_entry.value.operand more.1
      (λ r operand. entry_set target k h.number block phi h.entry r inside listed h.block operand (subst (λ (o : Operand). IsResolvedOperand m f o) operand resolved_entry.value.operand)) in (
        number,
        subst (λ (p : Placed). HasValue births (type_of m ty) (operand_value m registers p)) h.value
            (value_same births (type_of m h.entry.value.ty) (type_of m ty) (operand_value m registers h.entry.value) more.0 has),
      )

  fits_phi : (k : ℕ) (phi : Inst) (type : IrType) (v : Value) → slice_get f.insts k ≡ Some phi → given_type m phi.op ≡ type → is_number_type type ≡ true → HasValue births type (Some v)
      → FitsResult m f phi.result births v
  fits_phi k phi type v there given number has = by_result phi.result refl
    where
      by_result : (result : Option ℕ) → phi.result ≡ result → FitsResult m f result births v
      by_result None e = tt
      by_result (Some r) e =
          let value_type : is_value_type (given_type m phi.op) ≡ true = ap is_value_type given ∙ number_is_value type number in
          (subst (λ (t : IrType). IsOfType t v) (sym (resolved.registers.types k r phi there e value_type ∙ given)) has.0, has.1)

  -- each phi of a block to which this one leads has a value
  pub phi_has : (target k : ℕ) (block : Block) (phi : Inst) → Leads (ways_of f) at.b target → IsIn f target k block phi → is_phi phi.op ≡ true → IsResolvedOp m f phi.op
      → operation_fault m f phi.place phi.op ≡ None → HasPhiValue m births f registers at.b phi
  phi_has target k block phi leads inside is_one named typed = by_op phi.op refl is_one named typed
    where
      by_value : (ty : ℕ) (placed : Placed) (entries : List PhiEntry) → phi.op ≡ op.Phi ty entries → entry_from at.b entries ≡ Some placed → is_number_type (type_of m ty) ≡ true → (found : Option Value)
          → operand_value m registers placed ≡ found → HasValue births (type_of m ty) found → HasPhiValue m births f registers at.b phi
      by_value ty placed entries is e number None at_value has = absurd has
      by_value ty placed entries is e number (Some v) at_value has =
          record {
            value = v;
            is =
                ap (λ (o : Op). phi_value m registers at.b o) is
                ∙ ap (λ (p : Option Placed). option_and_then single (option_and_then (operand_value m registers) p)) e
                ∙ ap (λ (x : Option Value). option_and_then single x) at_value
                ∙ single_has births (type_of m ty) v number has.0;
            fits = fits_phi k phi (type_of m ty) v inside.there (ap (λ (o : Op). given_type m o) is) number has;
          }

      by_entry_of : (ty : ℕ) (entries : List PhiEntry) → phi.op ≡ op.Phi ty entries → IsResolvedOp m f (op.Phi ty entries) → operation_fault m f phi.place (op.Phi ty entries) ≡ None
          → (found : Option Placed) → entry_from at.b entries ≡ found → HasPhiValue m births f registers at.b phi
      by_entry_of ty entries is named typed None e =
          absurd (entries_good _ (bad_phi target k ty block phi entries inside is (λ g.
          let own = g.entries_are.each at.b leads in no_entry at.b entries e own.number own.entry own.there own.from)))
      by_entry_of ty entries is named typed (Some placed) e =
          let two = taken_value target k ty block phi entries inside is named typed placed e in
          by_value ty placed entries is e two.0 (operand_value m registers placed) refl two.1

      by_op : (o : Op) → phi.op ≡ o → is_phi o ≡ true → IsResolvedOp m f o → operation_fault m f phi.place o ≡ None → HasPhiValue m births f registers at.b phi
      by_op (op.Phi ty entries) is yes_phi named typed = by_entry_of ty entries is named typed (entry_from at.b entries) refl
      by_op other is yes_phi named typed = absurd cc

-- ---- all phis of a block

-- registers and values of phis, in order
abbrev pub PhisFit : Module → List Birth → Function → List Inst → List (Option ℕ × Value) → Type 0
PhisFit m births f [] [] = Unit {0}
PhisFit m births f [] (given ∷ values) = ⊥
PhisFit m births f (phi ∷ phis) [] = ⊥
PhisFit m births f (phi ∷ phis) (given ∷ values) = (given.0 ≡ phi.result) × FitsResult m f given.0 births given.1 × PhisFit m births f phis values

pub record HasPhiValues (m : Module) (births : List Birth) (f : Function) (registers : List (Option Value)) (from : ℕ) (phis : List Inst) : Type 0 where
  pub values : List (Option ℕ × Value)
  pub is : phi_values m registers from phis ≡ Some values
  pub fit : PhisFit m births f phis values

one_before : (result : Option ℕ) (value : Option Value) (values : Option (List (Option ℕ × Value))) (v : Value) (vs : List (Option ℕ × Value)) → value ≡ Some v → values ≡ Some vs
    → value_before result value values ≡ Some ((result, v) ∷ vs)
one_before result value values v vs e h = rw (e, h) refl

pub all_phis : (m : Module) (births : List Birth) (f : Function) (registers : List (Option Value)) (from : ℕ) (phis : List Inst)
    → ((k : ℕ) (phi : Inst) → slice_get phis k ≡ Some phi → HasPhiValue m births f registers from phi) → HasPhiValues m births f registers from phis
unfolding phi_values
all_phis m births f registers from [] each = record { values = []; is = refl; fit = tt }
all_phis m births f registers from (phi ∷ phis) each =
    let first = each 0 phi refl in
    let others = all_phis m births f registers from phis (λ k x at. each (suc k) x at) in
    record {
      values = (phi.result, first.value) ∷ others.values;
      is = one_before phi.result (phi_value m registers from phi.op) (phi_values m registers from phis) first.value others.values first.is others.is;
      fit = (refl, first.fits, others.fit);
    }

-- ---- registers after an edge

pub results-count : (m : Module) (births : List Birth) (f : Function) (registers : List (Option Value)) (values : List (Option ℕ × Value))
    → length (with_results registers values) ≡ length registers
unfolding with_results
results-count m births f registers [] = refl
results-count m births f registers (given ∷ values) =
    results-count m births f (with_result registers given.0 given.1) values ∙ result-count registers given.0 given.1

pub results-typed : (m : Module) (births : List Birth) (f : Function) (registers : List (Option Value)) (phis : List Inst) (values : List (Option ℕ × Value)) → PhisFit m births f phis values
    → ((r : ℕ) (v : Value) → slice_get registers r ≡ Some (Some v) → IsOfType (type_of m (slice_index f.regs r)) v)
    → (r : ℕ) (v : Value) → slice_get (with_results registers values) r ≡ Some (Some v) → IsOfType (type_of m (slice_index f.regs r)) v
unfolding with_results
results-typed m births f registers [] [] fit h = h
results-typed m births f registers [] (given ∷ values) fit h = absurd fit
results-typed m births f registers (phi ∷ phis) [] fit h = absurd fit
results-typed m births f registers (phi ∷ phis) (given ∷ values) fit h =
    results-typed m births f (with_result registers given.0 given.1) phis values fit.2 (result-typed m births f registers given.0 given.1 fit.1 h)

pub results-known : (m : Module) (births : List Birth) (f : Function) (registers : List (Option Value)) (phis : List Inst) (values : List (Option ℕ × Value)) → PhisFit m births f phis values
    → ((r : ℕ) (v : Value) → slice_get registers r ≡ Some (Some v) → IsKnownValue births v)
    → (r : ℕ) (v : Value) → slice_get (with_results registers values) r ≡ Some (Some v) → IsKnownValue births v
unfolding with_results
results-known m births f registers [] [] fit h = h
results-known m births f registers [] (given ∷ values) fit h = absurd fit
results-known m births f registers (phi ∷ phis) [] fit h = absurd fit
results-known m births f registers (phi ∷ phis) (given ∷ values) fit h =
    results-known m births f (with_result registers given.0 given.1) phis values fit.2 (result-known m births f registers given.0 given.1 fit.1 h)

-- a register that has none wasn't set by a phi, and had none before
pub results-none : (m : Module) (births : List Birth) (f : Function) (registers : List (Option Value)) (phis : List Inst) (values : List (Option ℕ × Value)) (r : ℕ) → PhisFit m births f phis values
    → slice_get (with_results registers values) r ≡ Some None
    → ((k : ℕ) (phi : Inst) → slice_get phis k ≡ Some phi → phi.result ≡ Some r → ⊥) × (slice_get registers r ≡ Some None)
unfolding with_results
results-none m births f registers [] [] r fit e = (λ k phi there is. absurd cc, e)
results-none m births f registers [] (given ∷ values) r fit e = absurd fit
results-none m births f registers (phi ∷ phis) [] r fit e = absurd fit
results-none m births f registers (phi ∷ phis) (given ∷ values) r fit e =
    let later = results-none m births f (with_result registers given.0 given.1) phis values r fit.2 e in
    let here = result-none registers given.0 given.1 r later.1 in
    (by_place later.0 here.0, here.1)
  where
    by_place : ((k : ℕ) (x : Inst) → slice_get phis k ≡ Some x → x.result ≡ Some r → ⊥) → (given.0 ≡ Some r → ⊥) → (k : ℕ) (x : Inst) → slice_get (phi ∷ phis) k ≡ Some x → x.result ≡ Some r → ⊥
    by_place others first zero x there is = let same : phi ≡ x = cc in first (fit.0 ∙ (ap (λ (y : Inst). y.result) same ∙ is))
    by_place others first (suc k) x there is = others k x there is
