-- A whole step of a task keeps the places of frames, and its code is long enough for its instructions.
use Rattle.std.proofs.Common.{◌≡◌, ℕ, zero, suc, ◌+◌, ◌-◌, ◌<◌, true, false, List, [], ◌∷◌, ◌++◌, length, map, drop, Option, Some, None, refl, sym, ◌∙◌, ap, subst, arith}
use Rattle.std.specs.Prelude.{slice_get}
use Rattle.std.proofs.lemmas.List.{length-append, length-drop}
use Rattle.hw_base.specs.declared.endings.Input.{Input}
use Rattle.hw_base.specs.declared.pointers.Site.{Site}
use Rattle.ir_core.specs.declared.ir_module.Inst.{Inst}
use Rattle.ir_core.specs.declared.ir_module.Function.{Function}
use Rattle.ir_core.specs.declared.ir_module.Module.{Module}
use Rattle.ir_core.specs.Blocks.{block_holding}
use Rattle.ir_core.specs.Operations.{is_phi, is_terminator}
use Rattle.ir_core.specs.ResolvedBodies.{IsResolvedOp}
use Rattle.ir_core.specs.Runnable.{IsRunnable, IsRunnableOp}
use Rattle.mi_code.specs.declared.code_functions.CodeFunction.{CodeFunction}
use Rattle.mi_code.specs.declared.code_functions.Mi.{Mi}
use Rattle.mi_code.specs.declared.operations.MiOp.{MiOp}
use Rattle.mi_code.specs.SourceCode.{source_code}
use Rattle.mi_code.specs.TagChecks.{added_code}
use Rattle.mi_code.specs.Instrumentation.{added_mi, source_mi, starts_of, place_of, code_of_instruction, code_from, code_of_function, instrumented}
use Rattle.mi_code.proofs.CodePlaces.{length-code_of_instruction}
use Rattle.ir_machine.specs.State.{MachineSetting, MachineSeen}
use Rattle.ir_machine.specs.ReachableWorlds.{IsAt, IsAtInstruction, is_call, AreCallers}
use Rattle.ir_machine.specs.CallSteps.{code_at, instruction_at}
use Rattle.ir_machine.specs.InstructionStep.{instruction_step, steps_within, machine_step}
use Rattle.ir_machine.proofs.BlockPlaces.{all-at}
use Rattle.ir_machine.proofs.CheckedSteps.{AreAddedWork, GoesForward, added-kept, code-added}
use Rattle.ir_machine.proofs.CodeAt.{code-drop, code-get, own-one}
use Rattle.ir_machine.proofs.EntryPlaces.{code-there}
use Rattle.ir_machine.proofs.KeptPlaces.{KeepsPlaces}
use Rattle.ir_machine.proofs.OwnSteps.{call-added, resolved-at, runnable-at, next-at, OwnKept, own-kept}

-- the code of a function is longer than what is added before an instruction
enough-code : (m : Module) (f : Function) (func i : ℕ) (inst : Inst) → slice_get f.insts i ≡ Some inst → is_phi inst.op ≡ false → length (added_code m f.allocas inst.op) < length (code_of_function m func f).insts
enough-code m f func i inst there phi =
    let code = (code_of_function m func f).insts in
    let site : Site = record { func = func; inst = i } in
    let rest = code_from m f func (suc i) (drop (suc i) f.insts) in
    let all : drop (place_of m f i) code ≡ code_of_instruction m f site inst ++ rest = code-drop m f func i inst there in
    let left : length code - place_of m f i ≡ length (code_of_instruction m f site inst ++ rest) = sym (length-drop (place_of m f i) code) ∙ ap length all in
    let parts = length-append (code_of_instruction m f site inst) rest in
    let own = length-code_of_instruction m f site inst in
    let one = own-one inst.op phi in
    omega (arith, left, parts, own, one)

module _ (m : Module) (runnable : IsRunnable m) (setting : MachineSetting) (code : setting.code ≡ instrumented m) (task : ℕ) where
  -- from a state on, the code is this
  abbrev HasCode : MachineSeen → List Mi → Type 0
  HasCode s insts = (j : ℕ) → slice_get (code_at setting.code s.frame.func).insts (s.frame.place + j) ≡ slice_get insts j

  has-next : (s s' : MachineSeen) (mi : Mi) (insts : List Mi) → HasCode s (mi ∷ insts) → s'.frame.func ≡ s.frame.func → s'.frame.place ≡ s.frame.place + 1 → HasCode s' insts
  has-next s s' mi insts h func place j =
      let at : s'.frame.place + j ≡ s.frame.place + suc j = omega (arith, place) in
      ap (λ (k : ℕ). slice_get (code_at setting.code k).insts (s'.frame.place + j)) func
      ∙ (ap (slice_get (code_at setting.code s.frame.func).insts) at ∙ h (suc j))

  -- the instruction where a state is
  first-there : (s : MachineSeen) (mi : Mi) (insts : List Mi) → HasCode s (mi ∷ insts) → instruction_at setting.code s.frame ≡ Some mi
  first-there s mi insts h =
      let at : s.frame.place ≡ s.frame.place + 0 = omega arith in
      ap (slice_get (code_at setting.code s.frame.func).insts) at ∙ h 0

  -- what comes after some added instructions is kept
  abbrev KeptAfter : Input → Site → MachineSeen → ℕ → Option MiOp → Type 0
  KeptAfter given site s count o =
      (s' : MachineSeen) → s'.frame.func ≡ s.frame.func → s'.frame.place ≡ s.frame.place + count → s'.callers ≡ s.callers → s'.task ≡ s.task
      → OwnKept m runnable setting code task given site s' o

  within-kept : (given : Input) (site : Site) (added : List MiOp) → AreAddedWork added → (o : Option MiOp) (rest : List Mi) (fuel : ℕ) → length added < fuel → (s : MachineSeen) → HasCode s ((map (added_mi site) added ++ source_mi site o) ++ rest) → KeptAfter given site s (length added) o → KeepsPlaces m task (steps_within setting given fuel s)
  unfolding steps_within
  within-kept given site added work o rest zero enough s has kept = absurd (omega arith)
  within-kept given site [] work None rest (suc fuel) enough s has kept = absurd (kept s refl (omega arith) refl refl)
  within-kept given site [] work (Some op) rest (suc fuel) enough s has kept =
      subst (λ (o : Option Mi). KeepsPlaces m task (instruction_step setting given (steps_within setting given fuel) s o))
      (sym (first-there s _ rest has))
      (kept s refl (omega arith) refl refl (steps_within setting given fuel))
  within-kept given site (op ∷ added) work o rest (suc fuel) enough s has kept =
      let more = (map (added_mi site) added ++ source_mi site o) ++ rest in
      let forward : GoesForward m task s (steps_within setting given fuel) =
      (λ (s' : MachineSeen) (func : s'.frame.func ≡ s.frame.func) (place : s'.frame.place ≡ s.frame.place + 1) (callers : s'.callers ≡ s.callers) (same : s'.task ≡ s.task).
      within-kept given site added work.1 o rest fuel (omega arith) s' (has-next s s' (added_mi site op) more has func place)
      (λ (t : MachineSeen) (func' : t.frame.func ≡ s'.frame.func) (place' : t.frame.place ≡ s'.frame.place + length added) (callers' : t.callers ≡ s'.callers) (same' : t.task ≡ s'.task).
      kept t (func' ∙ func) (omega (arith, place, place')) (callers' ∙ callers) (same' ∙ same))) in
      subst (λ (o : Option Mi). KeepsPlaces m task (instruction_step setting given (steps_within setting given fuel) s o))
      (sym (first-there s _ more has))
      (added-kept m task setting given site (steps_within setting given fuel) s op work.0 forward)

  -- the source instruction of a frame, after what is added before it
  own-at : (given : Input) (s : MachineSeen) (f : Function) (i : ℕ) (inst : Inst) → IsAt m s.frame f i inst → AreCallers m s.callers → s.task ≡ task → KeptAfter given (record { func = s.frame.func; inst = i }) s (length (added_code m f.allocas inst.op)) (source_code m f (starts_of m f) (block_holding f.blocks i) inst.result inst.op)
  own-at given s f i inst at callers same s' func place callers' same' =
      let there : slice_get m.functions s'.frame.func ≡ Some f = ap (slice_get m.functions) func ∙ at.func in
      let resolved = resolved-at m runnable s.frame.func f at.func in
      let runs = runnable-at m runnable s.frame.func f at.func in
      let calling = subst (AreCallers m) (sym callers') callers in
      let own_place = at.place in
      own-kept m runnable setting code task given (record { func = s.frame.func; inst = i }) s' f (block_holding f.blocks i) inst.result inst.op there calling (same' ∙ same) at.not_phi
      (all-at (λ (x : Inst). IsResolvedOp m f x.op) f.insts i inst resolved.instructions at.there)
      (all-at (λ (x : Inst). IsRunnableOp m x.op) f.insts i inst runs.instructions at.there)
      (λ (goes_on : is_terminator inst.op ≡ false).
      (next-at m runnable s'.frame f i inst there at.there at.not_phi goes_on (omega (arith, place, own_place)), calling))
      (λ (call : is_call inst.op ≡ true).
      let none = call-added m f.allocas inst.op call in
      (f, i, inst, record { func = there; there = at.there; not_phi = at.not_phi; place = omega (arith, place, own_place, none) }, call))

  has-code : (s : MachineSeen) (f : Function) (i : ℕ) (inst : Inst) → IsAt m s.frame f i inst → HasCode s ((map (added_mi (record { func = s.frame.func; inst = i })) (added_code m f.allocas inst.op) ++ source_mi (record { func = s.frame.func; inst = i }) (source_code m f (starts_of m f) (block_holding f.blocks i) inst.result inst.op)) ++ code_from m f s.frame.func (suc i) (drop (suc i) f.insts))
  unfolding code_of_instruction
  has-code s f i inst at j =
      ap (λ (c : CodeFunction). slice_get c.insts (s.frame.place + j)) (code-there setting m code s.frame.func f at.func)
      ∙ (ap (λ (p : ℕ). slice_get (code_of_function m s.frame.func f).insts (p + j)) at.place
      ∙ code-get m f s.frame.func i j inst at.there)

  -- a whole step
  pub step-kept : (given : Input) (s : MachineSeen) → IsAtInstruction m s.frame → AreCallers m s.callers → s.task ≡ task → KeepsPlaces m task (machine_step setting given s)
  unfolding machine_step
  step-kept given s (f, i, inst, at) callers same =
      let site : Site = record { func = s.frame.func; inst = i } in
      let added = added_code m f.allocas inst.op in
      let long : length added < length (code_at setting.code s.frame.func).insts =
      subst (λ (c : CodeFunction). length added < length c.insts) (sym (code-there setting m code s.frame.func f at.func)) (enough-code m f s.frame.func i inst at.there at.not_phi) in
      within-kept given site added (code-added m f.allocas inst.op)
      (source_code m f (starts_of m f) (block_holding f.blocks i) inst.result inst.op)
      (code_from m f s.frame.func (suc i) (drop (suc i) f.insts))
      (length (code_at setting.code s.frame.func).insts) long s (has-code s f i inst at)
      (own-at given s f i inst at callers same)
