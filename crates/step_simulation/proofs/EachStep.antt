-- The machine follows each step of the source.
use Rattle.std.proofs.Common.{◌≡◌, ℕ, ◌+◌, List, [], ◌++◌, length, slice_get, map, Option, None, Some, refl, sym, ◌∙◌, ap, subst}
use Rattle.hw_base.specs.declared.endings.Input.{Input}
use Rattle.hw_tags.specs.InputState.{next_input}
use Rattle.ir_core.specs.Blocks.{block_holding}
use Rattle.ir_core.specs.ResolvedBodies.{IsResolvedOp}
use Rattle.ir_core.specs.Runnable.{IsRunnableOp, IsRunnableFunction}
use Rattle.ir_core.specs.declared.ir_module.Function.{Function}
use Rattle.ir_core.specs.declared.ir_module.Inst.{Inst}
use Rattle.ir_core.specs.declared.operands.Placed.{Placed}
use Rattle.ir_core.specs.declared.operands.StartArg.{StartArg}
use Rattle.ir_core.specs.declared.operations.Op.{Op}
use Rattle.ir_core.specs.declared.operations.Op.TheVariants as op
use Rattle.ir_machine.proofs.BlockPlaces.{all-at}
use Rattle.ir_machine.proofs.CodeAt.{get-below}
use Rattle.ir_machine.specs.InstructionStep as machine
use Rattle.ir_machine.specs.State.{MachineSetting, MachineSeen}
use Rattle.ir_meaning.specs.InstructionStep as source
use Rattle.ir_meaning.specs.LibraryCalls as calls
use Rattle.ir_meaning.specs.Operands.{with_named}
use Rattle.mi_code.specs.Instrumentation.{code_of_instruction, own_length, added_mi, source_mi, starts_of}
use Rattle.mi_code.specs.LibraryCode.{library_call}
use Rattle.mi_code.specs.MachineOperands.{result_register}
use Rattle.mi_code.specs.SourceCode.{source_code, call_code, returned}
use Rattle.mi_code.specs.TagChecks.{added_code, leave_code, library_checks, lib_of, lib_by}
use Rattle.mi_code.specs.declared.operations.MiOp.{MiOp}
use Rattle.mi_code.specs.declared.operations.MiOp.TheVariants as mi
use Rattle.tag_story.specs.ToldRun.{ToldSeen, source_seen}
use Rattle.step_simulation.proofs.AtomicFollows.{each-rmw-followed, each-cmpxchg-followed}
use Rattle.step_simulation.proofs.CallFollows.{each-call-followed}
use Rattle.step_simulation.proofs.LibraryChecks.{HasChecks}
use Rattle.step_simulation.proofs.LibraryFollows.{each-library-followed}
use Rattle.step_simulation.proofs.NewestFrame.{alloca-follows}
use Rattle.step_simulation.proofs.OperandsThere.{resolved-at}
use Rattle.step_simulation.proofs.PlainSteps.{FollowsIn, own_site}
use Rattle.step_simulation.proofs.PointerLoads.{each-load-followed}
use Rattle.step_simulation.proofs.RegisterSteps.{source-at, register_step-followed, by-code}
use Rattle.step_simulation.proofs.ReturnFollows.{each-return-followed}
use Rattle.step_simulation.proofs.StoreFollows.{each-store-followed}
use Rattle.step_simulation.specs.RegisterSteps.{IsAt, IsFollowed}
use Rattle.simulation.specs.Relation.{IsSetting, SeenRelated}

module _ (setting : MachineSetting) (t : ToldSeen) (m : MachineSeen) (f : Function) (inst : Inst) (is : IsSetting setting) (at : IsAt setting.program t f inst) (related : SeenRelated setting t m) where
  -- checks, and an operation after them
  abbrev IsCheckedCode : Op → List MiOp → MiOp → Type 0
  IsCheckedCode o checks operation =
      (map (added_mi (own_site t)) (added_code setting.program f.allocas o) ++ source_mi (own_site t) (source_code setting.program f (starts_of setting.program f) (block_holding f.blocks t.frame.inst) inst.result o) ≡ map (added_mi (own_site t)) checks ++ source_mi (own_site t) (Some operation))
      × (length (added_code setting.program f.allocas o) + own_length o ≡ length checks + 1)

  has-checks : (given : Input) (o : Op) (checks : List MiOp) (operation : MiOp) → inst.op ≡ o → IsCheckedCode o checks operation → HasChecks setting given t m f inst is at related checks operation
  unfolding code_of_instruction
  has-checks given o checks operation same code =
      let moved = subst (λ x. IsCheckedCode x checks operation) (sym same) code in
      record { code = moved.0; many = moved.1 }

  -- the source's step, once its operation is named
  abbrev Is : Op → Type 0
  Is o = inst.op ≡ o

  named : (given : Input) (o : Op) → Is o → FollowsIn setting t m (source.operation_step setting.program given f (source_seen t) inst.result o) (machine.machine_step setting given m)
      → FollowsIn setting t m (source.source_step setting.program given (source_seen t)) (machine.machine_step setting given m)
  named given o same follows =
      subst (λ outcome. FollowsIn setting t m outcome (machine.machine_step setting given m))
      (sym (source-at setting.program given t f inst at ∙ ap (source.operation_step setting.program given f (source_seen t) inst.result) same)) follows

  library : (given : Input) (declare ty : ℕ) (args : List Placed) (start : Option StartArg) → Is (op.CallLib declare ty args start) → IsRunnableOp setting.program (op.CallLib declare ty args start) → IsResolvedOp setting.program f (op.CallLib declare ty args start)
      → FollowsIn setting t m (source.source_step setting.program given (source_seen t)) (machine.machine_step setting given m)
  unfolding with_named
  library given declare ty args start same runnable resolved =
      let (d, there) = get-below setting.program.declares declare resolved.0 in
      let function : lib_of setting.program declare ≡ d.lib = ap lib_by there in
      named given (op.CallLib declare ty args start) same
      (subst (λ o. FollowsIn setting t m (with_named o (λ d. calls.library_step setting.program given (source_seen t) inst.result args (source.values_of setting.program (source_seen t) args) start d.lib)) (machine.machine_step setting given m)) (sym there)
      (each-library-followed setting given t m f inst is at related args resolved.2 start d.lib (runnable d there)
      (subst (λ function. HasChecks setting given t m f inst is at related (library_checks function args) (library_call f function inst.result args start)) function
      (has-checks given (op.CallLib declare ty args start) (library_checks (lib_of setting.program declare) args) _ same (refl, refl)))))

  return : (given : Input) (value : Option Placed) → Is (op.Ret value) → IsResolvedOp setting.program f (op.Ret value) → FollowsIn setting t m (source.source_step setting.program given (source_seen t)) (machine.machine_step setting given m)
  return given value same resolved =
      named given (op.Ret value) same
      (each-return-followed setting given t m f inst is at related value resolved
      (has-checks given (op.Ret value) (leave_code f.allocas) (mi.Ret (returned value)) same (refl, refl)))

  alloca : (given : Input) (index ty : ℕ) (count : Option Placed) → Is (op.Alloca index ty count) → IsResolvedOp setting.program f (op.Alloca index ty count) → FollowsIn setting t m (source.source_step setting.program given (source_seen t)) (machine.machine_step setting given m)
  alloca given index ty count same resolved =
      let has = has-checks given (op.Alloca index ty count) [] (mi.Alloca (result_register f inst.result) index) same (refl, refl) in
      by-code setting given t m f inst (mi.Alloca (result_register f inst.result) index) is at related (has.code, has.many) (λ next before.
      subst (λ o. FollowsIn setting t m (source.operation_step setting.program given f (source_seen t) inst.result o) (machine.operation_step setting given (own_site t) next m (mi.Alloca (result_register f inst.result) index))) (sym same)
      (alloca-follows setting t m f related.like before inst.result index resolved.0))

  call : (given : Input) (func result : ℕ) (args : List Placed) → Is (op.Call func result args) → IsResolvedOp setting.program f (op.Call func result args) → FollowsIn setting t m (source.source_step setting.program given (source_seen t)) (machine.machine_step setting given m)
  call given func result args same resolved =
      let has = has-checks given (op.Call func result args) [] (call_code func inst.result args) same (refl, refl) in
      by-code setting given t m f inst (call_code func inst.result args) is at related (has.code, has.many) (λ next before.
      subst (λ o. FollowsIn setting t m (source.operation_step setting.program given f (source_seen t) inst.result o) (machine.operation_step setting given (own_site t) next m (call_code func inst.result args))) (sym same)
      (each-call-followed setting t m f inst func result args is at same resolved related))

  by-op : (o : Op) → Is o → IsRunnableOp setting.program o → IsResolvedOp setting.program f o → IsFollowed setting t m
  by-op (op.Binary kind a b) same runnable resolved = register_step-followed setting t m f inst is at (rw same refl) related
  by-op (op.Icmp pred a b) same runnable resolved = register_step-followed setting t m f inst is at (rw same refl) related
  by-op (op.Cast kind a to) same runnable resolved = register_step-followed setting t m f inst is at (rw same refl) related
  by-op (op.Select cond a b) same runnable resolved = register_step-followed setting t m f inst is at (rw same refl) related
  by-op (op.Freeze a) same runnable resolved = register_step-followed setting t m f inst is at (rw same refl) related
  by-op (op.Phi ty entries) same runnable resolved = λ input. named (next_input input t.shared.source.input) (op.Phi ty entries) same tt
  by-op (op.Alloca index ty count) same runnable resolved = λ input. alloca (next_input input t.shared.source.input) index ty count same resolved
  by-op (op.Load ty place align) same runnable resolved = each-load-followed setting t m f inst ty align place is at same related
  by-op (op.Store value place align) same runnable resolved = each-store-followed setting t m f inst value place align is at same related
  by-op (op.Gep ty base indices) same runnable resolved = register_step-followed setting t m f inst is at (rw same refl) related
  by-op op.Fence same runnable resolved = register_step-followed setting t m f inst is at (rw same refl) related
  by-op (op.Rmw kind place value align) same runnable resolved = each-rmw-followed setting t m f inst kind place value align is at same related
  by-op (op.CmpXchg place expected new align) same runnable resolved = each-cmpxchg-followed setting t m f inst place expected new align is at same related
  by-op (op.ExtractValue pair part) same runnable resolved = register_step-followed setting t m f inst is at (rw same refl) related
  by-op (op.Call func result args) same runnable resolved = λ input. call (next_input input t.shared.source.input) func result args same resolved
  by-op (op.CallLib declare ty args start) same runnable resolved = λ input. library (next_input input t.shared.source.input) declare ty args start same runnable resolved
  by-op (op.Br block) same runnable resolved = register_step-followed setting t m f inst is at (rw same refl) related
  by-op (op.BrIf cond at_one at_zero) same runnable resolved = register_step-followed setting t m f inst is at (rw same refl) related
  by-op (op.Switch on other cases) same runnable resolved = register_step-followed setting t m f inst is at (rw same refl) related
  by-op (op.Ret value) same runnable resolved = λ input. return (next_input input t.shared.source.input) value same resolved
  by-op op.Unreachable same runnable resolved = register_step-followed setting t m f inst is at (rw same refl) related

  runnable-here : IsRunnableOp setting.program inst.op
  runnable-here =
      all-at (λ (x : Inst). IsRunnableOp setting.program x.op) f.insts t.frame.inst inst
      (all-at (IsRunnableFunction setting.program) setting.program.functions t.frame.func f is.runnable.functions at.function).instructions at.instruction

  pub each-step-followed : IsFollowed setting t m
  each-step-followed = by-op inst.op refl runnable-here (resolved-at setting.program t.frame.func t.frame.inst f inst is.runnable at.function at.instruction)

-- wherever the task's newest frame is
pub every-step-followed : (setting : MachineSetting) (t : ToldSeen) (m : MachineSeen) → IsSetting setting → SeenRelated setting t m → IsFollowed setting t m
unfolding with_named
every-step-followed setting t m is related input = by_function (slice_get setting.program.functions t.frame.func) refl
  where
    given : Input
    given = next_input input t.shared.source.input

    by_inst : (f : Function) → slice_get setting.program.functions t.frame.func ≡ Some f → (o : Option Inst) → slice_get f.insts t.frame.inst ≡ o
        → FollowsIn setting t m (with_named o (λ i. source.operation_step setting.program given f (source_seen t) i.result i.op)) (machine.machine_step setting given m)
    by_inst f there None here = tt
    by_inst f there (Some inst) here =
        subst (λ o. FollowsIn setting t m o (machine.machine_step setting given m)) (source-at setting.program given t f inst (record { function = there; instruction = here }))
        (each-step-followed setting t m f inst is (record { function = there; instruction = here }) related input)

    by_function : (o : Option Function) → slice_get setting.program.functions t.frame.func ≡ o
        → FollowsIn setting t m (with_named o (λ f. with_named (slice_get f.insts t.frame.inst) (λ i. source.operation_step setting.program given f (source_seen t) i.result i.op))) (machine.machine_step setting given m)
    by_function None here = tt
    by_function (Some f) here = by_inst f here (slice_get f.insts t.frame.inst) refl
