use Rattle.std.proofs.Common.{◌≡◌, ◌≢◌, ◌+◌, length, refl, sym, ap, ◌∙◌, subst}
use Rattle.hw_base.specs.declared.endings.Input.TheVariants.{End}
use Rattle.hw_tags.specs.TaskRuns.{Stuck}
use Rattle.mi_code.specs.declared.operations.MiOp.{MiOp}
use Rattle.ir_machine.specs.CallSteps.{call_step, leave_step}
use Rattle.ir_machine.specs.CheckSteps.{one_step}
use Rattle.ir_machine.specs.InstructionStep.{marked_step, operation_step, steps_within}
use Rattle.ir_machine.specs.LibraryCalls.{library_step}
use Rattle.ir_machine.specs.RunStates.{IsOutcome, IsPlainOutcome, left_at}
use Rattle.ir_machine.specs.State.{MachineOutcome, MachineSeen}
use Rattle.ir_machine.proofs.BuiltCode.{returns-after}
use Rattle.ir_machine.proofs.Growth.{adds-little, outcome-little}
use Rattle.ir_machine.proofs.StepGrowth.{one-adds, other_check-adds, operation-adds, setting_with, setting_with-code}
use Rattle.ir_machine.proofs.Outcomes.{from_plain}
use Rattle.ir_machine.proofs.TurnSteps.{built-ordinary, entry-not-plain, ordinary, other-check, plain-after}
use Rattle.ir_machine.specs.Built.{IsBuiltAdded, IsBuiltOp, IsLeave, IsOrdinary, IsPlainFrom}
use Rattle.ir_machine.specs.declared.progress.Progress.{Progress}
use Rattle.ir_machine.proofs.turn.instruction.Goals as goal

pub leave_and_return-requires-clause-returns : goal.leave_and_return-requires-clause-returns
leave_and_return-requires-clause-returns c =
    returns-after c.args.insts.now c.args.run.now.seen.frame.place c.args.mi.now c.requires.returns c.requires.found (subst IsLeave (sym c.in-Leave.is) tt)

pub returns-in-One-clause-passes : goal.returns-in-One-clause-passes
returns-in-One-clause-passes c none setting given next =
    let seen = c.args.run.now.seen in
    c.in-Some.ensures.step c.in-Some.site refl setting given next seen
    ∙ (ap (λ (op : MiOp). operation_step setting given c.in-Some.site next seen op) c.in-One.is ∙ c.check_one.ensures.passes none next)

pub returns-in-One-clause-step : goal.returns-in-One-clause-step
returns-in-One-clause-step c x is setting given fuel has words goes =
    let seen = c.args.run.now.seen in
    let site = c.in-Some.site in
    let next = steps_within setting given fuel in
    let outcome : marked_step setting given next seen c.args.mi.now.mark c.args.mi.now.op ≡ one_step seen site c.in-One.at c.in-One.n c.in-One.access next =
    c.in-Some.ensures.step site refl setting given next seen ∙ ap (λ (op : MiOp). operation_step setting given site next seen op) c.in-One.is in
    from_plain _ x c.check_one.new.self
    (subst (λ (o : MachineOutcome). IsPlainOutcome o x c.check_one.new.self) (sym outcome) (c.check_one.ensures.fails x is next))

pub returns-in-One-clause-plain : goal.returns-in-One-clause-plain
returns-in-One-clause-plain c x is setting given next insts plain =
    let seen = c.args.run.now.seen in
    let site = c.in-Some.site in
    let outcome : marked_step setting given next seen c.args.mi.now.mark c.args.mi.now.op ≡ one_step seen site c.in-One.at c.in-One.n c.in-One.access next =
    c.in-Some.ensures.step site refl setting given next seen ∙ ap (λ (op : MiOp). operation_step setting given site next seen op) c.in-One.is in
    subst (λ (o : MachineOutcome). IsPlainOutcome o x c.check_one.new.self) (sym outcome) (c.check_one.ensures.fails x is next)

pub returns-in-One-clause-grows : goal.returns-in-One-clause-grows
returns-in-One-clause-grows c x is some =
    let seen = c.args.run.now.seen in
    let next : MachineSeen → MachineOutcome = λ s. Stuck in
    let outcome = one_step seen c.in-Some.site c.in-One.at c.in-One.n c.in-One.access next in
    outcome-little c.args.words.now seen.shared outcome x c.check_one.new.self
    (from_plain outcome x c.check_one.new.self (c.check_one.ensures.fails x is next)) some
    (one-adds seen c.in-Some.site c.in-One.at c.in-One.n c.in-One.access)

pub returns-in-Sized-clause-passes : goal.returns-in-Sized-clause-passes
returns-in-Sized-clause-passes c none setting given next =
    c.in-Some.ensures.step c.in-Some.site refl setting given next c.args.run.now.seen ∙ c.other_check.ensures.passes none setting given next

pub returns-in-Sized-clause-step : goal.returns-in-Sized-clause-step
returns-in-Sized-clause-step c x is setting given fuel has words goes =
    let seen = c.args.run.now.seen in
    let next = steps_within setting given fuel in
    from_plain _ x c.other_check.new.run
    (subst (λ (o : MachineOutcome). IsPlainOutcome o x c.other_check.new.run) (sym (c.in-Some.ensures.step c.in-Some.site refl setting given next seen)) (c.other_check.ensures.fails x is setting given next))

pub returns-in-Sized-clause-plain : goal.returns-in-Sized-clause-plain
returns-in-Sized-clause-plain c x is setting given next insts plain =
    subst (λ (o : MachineOutcome). IsPlainOutcome o x c.other_check.new.run) (sym (c.in-Some.ensures.step c.in-Some.site refl setting given next c.args.run.now.seen))
    (c.other_check.ensures.fails x is setting given next)

pub returns-in-Sized-clause-grows : goal.returns-in-Sized-clause-grows
returns-in-Sized-clause-grows c x is some =
    let seen = c.args.run.now.seen in
    let op = c.args.mi.now.op in
    let setting = setting_with c.args.program.now.code in
    let next : MachineSeen → MachineOutcome = λ s. Stuck in
    let outcome = operation_step setting End c.in-Some.site next seen op in
    outcome-little c.args.words.now seen.shared outcome x c.other_check.new.run
    (from_plain outcome x c.other_check.new.run (c.other_check.ensures.fails x is setting End next)) some
    (other_check-adds setting End c.in-Some.site seen op (other-check op c.in-Sized.is))

pub returns-in-CallLib-clause-step : goal.returns-in-CallLib-clause-step
returns-in-CallLib-clause-step c x is setting given fuel has words goes =
    let seen = c.args.run.now.seen in
    let site = c.in-Some.site in
    let next = steps_within setting given fuel in
    let same : c.library.result ≡ x = cc in
    let outcome : marked_step setting given next seen c.args.mi.now.mark c.args.mi.now.op ≡ library_step setting given seen site c.in-CallLib.lib c.in-CallLib.to c.in-CallLib.args c.in-CallLib.start =
    c.in-Some.ensures.step site refl setting given next seen ∙ ap (λ (op : MiOp). operation_step setting given site next seen op) c.in-CallLib.is in
    subst (λ (o : MachineOutcome). IsOutcome o x c.library.new.run) (sym outcome)
    (subst (λ (p : Progress). IsOutcome (library_step setting given seen site c.in-CallLib.lib c.in-CallLib.to c.in-CallLib.args c.in-CallLib.start) p c.library.new.run) same
    (c.library.ensures.step setting given c.in-CallLib.start words))

pub returns-in-Call-clause-step : goal.returns-in-Call-clause-step
returns-in-Call-clause-step c x is setting given fuel has words goes =
    let seen = c.args.run.now.seen in
    let site = c.in-Some.site in
    let next = steps_within setting given fuel in
    let same : c.call.result ≡ x = cc in
    let outcome : marked_step setting given next seen c.args.mi.now.mark c.args.mi.now.op ≡ call_step setting seen site c.in-Call.func c.in-Call.args =
    c.in-Some.ensures.step site refl setting given next seen ∙ ap (λ (op : MiOp). operation_step setting given site next seen op) c.in-Call.is in
    subst (λ (o : MachineOutcome). IsOutcome o x c.call.new.self) (sym outcome)
    (subst (λ (p : Progress). IsOutcome (call_step setting seen site c.in-Call.func c.in-Call.args) p c.call.new.self) same (c.call.ensures.step setting has words))

pub returns-in-Leave-clause-step : goal.returns-in-Leave-clause-step
unfolding leave_step
returns-in-Leave-clause-step c x is setting given fuel has words goes =
    let seen = c.args.run.now.seen in
    let site = c.in-Some.site in
    let next = steps_within setting given fuel in
    let same : c.leave_and_return.result ≡ x = cc in
    let outcome : marked_step setting given next seen c.args.mi.now.mark c.args.mi.now.op ≡ next (left_at seen site) =
    c.in-Some.ensures.step site refl setting given next seen ∙ ap (λ (op : MiOp). operation_step setting given site next seen op) c.in-Leave.is in
    subst (λ (o : MachineOutcome). IsOutcome o x c.leave_and_return.new.run) (sym outcome)
    (subst (λ (p : Progress). IsOutcome (next (left_at seen site)) p c.leave_and_return.new.run) same
    (c.leave_and_return.ensures.step setting given fuel has.has (λ stuck. goes (outcome ∙ stuck))))

pub returns-in_default-op : goal.returns-in_default-op
returns-in_default-op c =
    let seen = c.args.run.now.seen in
    let op = c.args.mi.now.op in
    let site = c.in-Some.site in
    let other : IsOrdinary op = ordinary op (λ at n access is. c.in_default-op.not-One at n access is) (λ at size access is. c.in_default-op.not-Sized at size access is)
    (λ at is. c.in_default-op.not-Str at is) (λ at is. c.in_default-op.not-FreeCheck at is)
    (λ func to args is. c.in_default-op.not-Call func to args is) (λ lib to args start is. c.in_default-op.not-CallLib lib to args start is) (λ is. c.in_default-op.not-Leave is) in
    let built : IsBuiltOp op = built-ordinary op (c.in-Some.ensures.built site refl) other in
    let code = setting_with c.args.program.now.code in
    let next : MachineSeen → MachineOutcome = λ s. Stuck in
    record {
      passed = λ e. absurd cc;
      words = λ e. refl;
      passes = λ e setting given after. absurd cc;
      check = λ e insts plain. absurd cc;
      step = λ x e setting given fuel has words goes.
          let same : c.operation.result ≡ x = cc in
          subst (λ (o : MachineOutcome). IsOutcome o x c.operation.new.run) (sym (c.in-Some.ensures.step site refl setting given (steps_within setting given fuel) seen))
          (subst (λ (p : Progress). IsOutcome (operation_step setting given site (steps_within setting given fuel) seen op) p c.operation.new.run) same
          (c.operation.ensures.step setting given (steps_within setting given fuel) has.has));
      plain = λ x e setting given after insts is.
          let same : c.operation.result ≡ x = cc in
          let plain = plain-after op (IsPlainFrom insts) other is in
          subst (λ (o : MachineOutcome). IsPlainOutcome o x c.operation.new.run) (sym (c.in-Some.ensures.step site refl setting given after seen))
          (subst (λ (p : Progress). IsPlainOutcome (operation_step setting given site after seen op) p c.operation.new.run) same (c.operation.ensures.plain setting given after plain));
      grows = λ x e some.
          let same : c.operation.result ≡ x = cc in
          outcome-little c.args.words.now seen.shared (operation_step code End site next seen op) x c.operation.new.run
          (subst (λ (p : Progress). IsOutcome (operation_step code End site next seen op) p c.operation.new.run) same (c.operation.ensures.step code End next (setting_with-code c.args.program.now.code))) some
          (operation-adds code End site next seen op built other);
    }
