-- A step is that of the instruction where the frame is, and then of those after it.
use Rattle.std.proofs.Common.{◌≡◌, ◌≢◌, ◌⊎◌, inl, inr, ℕ, zero, suc, ◌+◌, ◌≤◌, List, [], ◌∷◌, drop, length, refl, sym, ap, ◌∙◌, subst, Option, Some, None, arith}
use Rattle.std.specs.Prelude.{slice_get}
use Rattle.hw_base.specs.declared.endings.Input.{Input}
use Rattle.hw_base.specs.declared.accesses.Access.{Access}
use Rattle.hw_tags.specs.TaskRuns.{Stuck}
use Rattle.ir_core.specs.declared.lib_functions.Lib.{Lib}
use Rattle.mi_code.specs.declared.operands.MiOperand.{MiOperand}
use Rattle.mi_code.specs.declared.code_functions.Mi.{Mi}
use Rattle.mi_code.specs.declared.code_functions.CodeFunction.{CodeFunction}
use Rattle.mi_code.specs.declared.operations.MiOp.{MiOp}
use Rattle.mi_code.specs.declared.operations.MiOp.TheVariants as machine
use Rattle.ir_machine.specs.Built.{IsBuiltAdded, IsBuiltOp, IsOrdinary, IsOtherCheck, IsPlainAfter, IsPlainFrom, IsPlainOp}
use Rattle.ir_machine.specs.CallSteps.{code_at}
use Rattle.ir_machine.specs.InstructionStep.{steps_within, marked_step}
use Rattle.ir_machine.specs.State.{MachineSetting, MachineSeen, MachineOutcome}
use Rattle.ir_machine.specs.RunStates.{RunState, IsOutcome}
use Rattle.ir_machine.specs.declared.progress.Progress.{Progress}

-- with fuel left the step is that of the instruction at the place of the frame
pub steps_within-at : (setting : MachineSetting) (given : Input) (fuel : ℕ) (s : MachineSeen) (code : List CodeFunction) (mi : Mi) → setting.code ≡ code
    → slice_get (code_at code s.frame.func).insts s.frame.place ≡ Some mi
    → steps_within setting given (suc fuel) s ≡ marked_step setting given (steps_within setting given fuel) s mi.mark mi.op
unfolding steps_within
steps_within-at setting given fuel s code mi same found =
    rw here refl
  where
    here : slice_get (code_at setting.code s.frame.func).insts s.frame.place ≡ Some mi
    here = rw same found

-- at no instruction it is stuck
pub steps_within-nowhere : (setting : MachineSetting) (given : Input) (fuel : ℕ) (s : MachineSeen) (code : List CodeFunction) → setting.code ≡ code
    → slice_get (code_at code s.frame.func).insts s.frame.place ≡ None → steps_within setting given (suc fuel) s ≡ Stuck
unfolding steps_within
steps_within-nowhere setting given fuel s code same found =
    rw here refl
  where
    here : slice_get (code_at setting.code s.frame.func).insts s.frame.place ≡ None
    here = rw same found

-- and without fuel
pub steps_within-none : (setting : MachineSetting) (given : Input) (fuel : ℕ) (s : MachineSeen) → fuel ≡ 0 → steps_within setting given fuel s ≡ Stuck
unfolding steps_within
steps_within-none setting given zero s none = refl
steps_within-none setting given (suc fuel) s none = absurd (omega (arith, none))

-- a step that isn't stuck is that of the instruction where the frame is
pub step-there : (setting : MachineSetting) (given : Input) (fuel : ℕ) (s : MachineSeen) (code : List CodeFunction) (mi : Mi) (progress : Progress) (v : RunState)
    → setting.code ≡ code → slice_get (code_at code s.frame.func).insts s.frame.place ≡ Some mi → steps_within setting given fuel s ≢ Stuck
    → ((next : MachineSeen → MachineOutcome) → marked_step setting given next s mi.mark mi.op ≢ Stuck → IsOutcome (marked_step setting given next s mi.mark mi.op) progress v)
    → IsOutcome (steps_within setting given fuel s) progress v
step-there setting given zero s code mi progress v same found goes h = absurd (goes (steps_within-none setting given 0 s refl))
step-there setting given (suc fuel) s code mi progress v same found goes h =
    let at = steps_within-at setting given fuel s code mi same found in
    subst (λ (o : MachineOutcome). IsOutcome o progress v) (sym at) (h (steps_within setting given fuel) (λ stuck. goes (at ∙ stuck)))

-- a step at no instruction is stuck
pub stuck-nowhere : (setting : MachineSetting) (given : Input) (fuel : ℕ) (s : MachineSeen) (code : List CodeFunction) → setting.code ≡ code
    → slice_get (code_at code s.frame.func).insts s.frame.place ≡ None → steps_within setting given fuel s ≡ Stuck
stuck-nowhere setting given zero s code same found = steps_within-none setting given 0 s refl
stuck-nowhere setting given (suc fuel) s code same found = steps_within-nowhere setting given fuel s code same found

-- what follows an instruction
pub drop-at : (insts : List Mi) (place : ℕ) (mi : Mi) → slice_get insts place ≡ Some mi → drop place insts ≡ mi ∷ drop (place + 1) insts
drop-at [] place mi found = absurd (cc)
drop-at (first ∷ insts) zero mi found = let same : first ≡ mi = cc in ap (λ (m : Mi). m ∷ insts) same
drop-at (first ∷ insts) (suc place) mi found =
    let e : place + 1 + 1 ≡ suc place + 1 = omega arith in
    drop-at insts place mi found ∙ ap (λ (n : ℕ). mi ∷ drop n (first ∷ insts)) (more place)
  where
    more : (place : ℕ) → suc (place + 1) ≡ suc place + 1
    more place = omega arith

-- past the end there is no instruction
pub plain-past : (insts : List Mi) (place : ℕ) → length insts ≤ place → IsPlainFrom (drop place insts) → ⊥
plain-past [] zero past plain = plain
plain-past [] (suc place) past plain = plain
plain-past (mi ∷ insts) zero past plain = absurd (omega (arith, past))
plain-past (mi ∷ insts) (suc place) past plain = plain-past insts place (omega (arith, past)) plain

pub plain-nowhere : (insts : List Mi) (place : ℕ) → slice_get insts place ≡ None → IsPlainFrom (drop place insts) → ⊥
plain-nowhere [] zero none plain = plain
plain-nowhere [] (suc place) none plain = plain
plain-nowhere (mi ∷ insts) zero none plain = absurd (cc)
plain-nowhere (mi ∷ insts) (suc place) none plain = plain-nowhere insts place none plain

-- the instruction at a place is a check before one that takes no memory, or such a one itself
pub plain-here : (insts : List Mi) (place : ℕ) (mi : Mi) → slice_get insts place ≡ Some mi → IsPlainFrom (drop place insts) → IsPlainAfter mi.op (IsPlainFrom (drop (place + 1) insts))
plain-here insts place mi found plain = subst IsPlainFrom (drop-at insts place mi found) plain

-- an ordinary instruction takes no memory if it is one of those that don't
pub plain-after : (op : MiOp) (rest : Type 0) → IsOrdinary op → IsPlainAfter op rest → IsPlainOp op
plain-after (machine.One at size access) rest ordinary plain = absurd ordinary
plain-after (machine.Sized at size access) rest ordinary plain = absurd ordinary
plain-after op rest ordinary plain = plain

-- what is no check, no call and no end of a frame
pub ordinary : (op : MiOp) → ((at : MiOperand) (size : ℕ) (access : Access) → op ≡ machine.One at size access → ⊥)
    → ((at size : MiOperand) (access : Access) → op ≡ machine.Sized at size access → ⊥) → ((at : MiOperand) → op ≡ machine.Str at → ⊥) → ((at : MiOperand) → op ≡ machine.FreeCheck at → ⊥)
    → ((func : ℕ) (to : Option ℕ) (args : List MiOperand) → op ≡ machine.Call func to args → ⊥)
    → ((lib : Lib) (to : Option ℕ) (args : List MiOperand) (start : Option ℕ) → op ≡ machine.CallLib lib to args start → ⊥) → (op ≡ machine.Leave → ⊥) → IsOrdinary op
ordinary (machine.One at size access) no_check no_sized no_str no_free no_call no_lib no_leave = no_check at size access refl
ordinary (machine.Sized at size access) no_check no_sized no_str no_free no_call no_lib no_leave = no_sized at size access refl
ordinary (machine.Str at) no_check no_sized no_str no_free no_call no_lib no_leave = no_str at refl
ordinary (machine.FreeCheck at) no_check no_sized no_str no_free no_call no_lib no_leave = no_free at refl
ordinary (machine.Call func to args) no_check no_sized no_str no_free no_call no_lib no_leave = no_call func to args refl
ordinary (machine.CallLib lib to args start) no_check no_sized no_str no_free no_call no_lib no_leave = no_lib lib to args start refl
ordinary machine.Leave no_check no_sized no_str no_free no_call no_lib no_leave = no_leave refl
ordinary op no_check no_sized no_str no_free no_call no_lib no_leave = tt

pub other-check : (op : MiOp) → ((at : MiOperand) × (size : MiOperand) × (access : Access) × (op ≡ machine.Sized at size access))
    ⊎ (((at : MiOperand) × (op ≡ machine.Str at)) ⊎ ((at : MiOperand) × (op ≡ machine.FreeCheck at))) → IsOtherCheck op
other-check op (inl (at, size, access, is)) = subst IsOtherCheck (sym is) tt
other-check op (inr (inl (at, is))) = subst IsOtherCheck (sym is) tt
other-check op (inr (inr (at, is))) = subst IsOtherCheck (sym is) tt

pub built-ordinary : (op : MiOp) → IsBuiltAdded op → IsOrdinary op → IsBuiltOp op
built-ordinary machine.Leave built other = absurd other
built-ordinary op built other = built

-- neither an entry nor the end of a frame takes no memory
pub entry-not-plain : (op : MiOp) (rest : Type 0) → op ≡ machine.Enter → IsPlainAfter op rest → ⊥
entry-not-plain op rest is plain = subst (λ (o : MiOp). IsPlainAfter o rest) is plain
