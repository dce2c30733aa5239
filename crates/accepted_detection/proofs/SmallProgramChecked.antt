-- The small modules pass all checks: each use of a register comes after its definition, and there are no phis.
use Rattle.std.proofs.Common.{◌≡◌, ℕ, zero, suc, ◌<◌, slice_get, Some, inl, inr, refl, sym, ap, subst, arith}
use Rattle.ir_check_flow.specs.Check.{IsFlowFault, IsFlowFaultOf}
use Rattle.ir_check_flow.specs.Checked.{IsChecked}
use Rattle.ir_check_flow.specs.Flow.{operands_of, entries_of, IsUndefinedUse, use_in_block, use_in_phi}
use Rattle.ir_check_flow.specs.Phis.{IsBadPhi, bad_phi}
use Rattle.ir_core.specs.Examples.{i8_literal, i32_literal, i64_literal, ptr_register, call_malloc, bytes_behind, store_byte, return_zero}
use Rattle.ir_core.specs.declared.ir_module.Block.{Block}
use Rattle.ir_core.specs.declared.ir_module.Function.{Function}
use Rattle.ir_core.specs.declared.ir_module.Inst.{Inst}
use Rattle.ir_core.specs.declared.operands.Operand.TheVariants.{Reg}
use Rattle.ir_core.specs.declared.operands.PhiEntry.{PhiEntry}
use Rattle.ir_core.specs.declared.operands.Placed.{Placed}
use Rattle.ir_core.specs.declared.operations.Op.TheVariants.{Phi}
use Rattle.ir_core.specs.declared.refusals.Refusal.{Refusal}
use Rattle.detection.proofs.SmallProgramRuns.{small_program-runnable}
use Rattle.detection.specs.SmallProgram.{small_insts, small_main, small_program}

module _ (off : ℕ) where
  -- what holds of each instruction
  each-inst : (P : ℕ → Inst → Type 0) → P 0 (call_malloc 0 10) → P 1 (bytes_behind 1 0 off) → P 2 (store_byte 1 1) → P 3 return_zero → (i : ℕ) (inst : Inst) → slice_get (small_insts off) i ≡ Some inst → P i inst
  each-inst P a b c d zero inst h = let same : call_malloc 0 10 ≡ inst = cc in subst (P 0) same a
  each-inst P a b c d (suc zero) inst h = let same : bytes_behind 1 0 off ≡ inst = cc in subst (P 1) same b
  each-inst P a b c d (suc (suc zero)) inst h = let same : store_byte 1 1 ≡ inst = cc in subst (P 2) same c
  each-inst P a b c d (suc (suc (suc zero))) inst h = let same : return_zero ≡ inst = cc in subst (P 3) same d
  each-inst P a b c d (suc (suc (suc (suc i)))) inst h = absurd cc

  -- ---- uses

  -- no instruction before this one defines the register
  abbrev IsFirstUse : (i register : ℕ) → Type 0
  IsFirstUse i register = (j : ℕ) (other : Inst) → j < i → slice_get (small_insts off) j ≡ Some other → other.result ≡ Some register → ⊥

  abbrev HasNoFirstUse : ℕ → Inst → Type 0
  HasNoFirstUse i inst = (n : ℕ) (placed : Placed) (register : ℕ) → slice_get (operands_of inst.op) n ≡ Some placed → placed.operand ≡ Reg register → IsFirstUse i register → ⊥

  -- a literal is no register
  in-malloc : HasNoFirstUse 0 (call_malloc 0 10)
  in-malloc zero placed register h is first = let same : i64_literal 10 ≡ placed = cc in let wrong = ap (λ (p : Placed). p.operand) same in absurd cc
  in-malloc (suc n) placed register h is first = absurd cc

  in-gep : HasNoFirstUse 1 (bytes_behind 1 0 off)
  in-gep zero placed register h is first =
      let same : ptr_register 0 ≡ placed = cc in
      let operand = ap (λ (p : Placed). p.operand) same in
      let number : 0 ≡ register = cc in
      first 0 (call_malloc 0 10) (omega arith) refl (ap (λ k. Some k) number)
  in-gep (suc zero) placed register h is first = let same : i64_literal off ≡ placed = cc in let wrong = ap (λ (p : Placed). p.operand) same in absurd cc
  in-gep (suc (suc n)) placed register h is first = absurd cc

  in-store : HasNoFirstUse 2 (store_byte 1 1)
  in-store zero placed register h is first = let same : i8_literal 1 ≡ placed = cc in let wrong = ap (λ (p : Placed). p.operand) same in absurd cc
  in-store (suc zero) placed register h is first =
      let same : ptr_register 1 ≡ placed = cc in
      let operand = ap (λ (p : Placed). p.operand) same in
      let number : 1 ≡ register = cc in
      first 1 (bytes_behind 1 0 off) (omega arith) refl (ap (λ k. Some k) number)
  in-store (suc (suc n)) placed register h is first = absurd cc

  in-return : HasNoFirstUse 3 return_zero
  in-return zero placed register h is first = let same : i32_literal 0 ≡ placed = cc in let wrong = ap (λ (p : Placed). p.operand) same in absurd cc
  in-return (suc n) placed register h is first = absurd cc

  first-block : (b : ℕ) (block : Block) → slice_get (small_main off).blocks b ≡ Some block → block.first ≡ 0
  first-block zero block h = let same : record { first = 0; phis = 0; count = 4 } ≡ block = cc in ap (λ (x : Block). x.first) (sym same)
  first-block (suc b) block h = absurd cc

  no-use : (refusal : Refusal) → IsUndefinedUse (small_main off) refusal → ⊥
  no-use _ (use_in_block b i n block inst placed register inside operand is later before undefined) =
      let from = first-block b block inside.at in
      each-inst HasNoFirstUse in-malloc in-gep in-store in-return i inst inside.there n placed register operand is
      (λ j other below there defined. before j other (omega (arith, from)) below there defined)
  no-use _ (use_in_phi b i n block inst entry register inside there is later defines undefined) =
      each-inst (λ i inst. (k : ℕ) (x : PhiEntry) → slice_get (entries_of inst.op) k ≡ Some x → ⊥) (λ k x h. absurd cc) (λ k x h. absurd cc) (λ k x h. absurd cc) (λ k x h. absurd cc) i inst inside.there n entry there

  -- ---- phis

  no-phi : (refusal : Refusal) → IsBadPhi (small_main off) refusal → ⊥
  no-phi _ (bad_phi b i ty block inst entries inside is bad) =
      each-inst (λ i inst. inst.op ≡ Phi ty entries → ⊥) (λ h. absurd cc) (λ h. absurd cc) (λ h. absurd cc) (λ h. absurd cc) i inst inside.there is

  one-function : (n : ℕ) (f : Function) → slice_get (small_program off).functions n ≡ Some f → small_main off ≡ f
  one-function zero f h = cc
  one-function (suc n) f h = absurd cc

  none-in : (refusal : Refusal) → IsFlowFaultOf (small_main off) refusal → ⊥
  none-in refusal (inl undefined) = no-use refusal undefined
  none-in refusal (inr bad) = no-phi refusal bad

  no-fault : (refusal : Refusal) → IsFlowFault (small_program off) refusal → ⊥
  no-fault refusal among = none-in refusal (subst (λ (f : Function). IsFlowFaultOf f refusal) (sym (one-function among.number among.thing among.there)) among.refused)

  pub small_program-checked : IsChecked (small_program off)
  small_program-checked = record { scopes = refl; types = refl; flow = no-fault; limits = refl; runnable = small_program-runnable off }
