use Rattle.std.proofs.Common.{◌≡◌, length, sym, ap, ◌∙◌, subst, Some, None}
use Rattle.std.specs.Prelude.{slice_get}
use Rattle.ir_machine.specs.CallSteps.{code_at}
use Rattle.ir_machine.specs.InstructionStep.{steps_within}
use Rattle.ir_machine.specs.RunStates.{RunState, AddsChain, IsOutcome, left_at}
use Rattle.ir_machine.specs.State.{MachineSeen}
use Rattle.ir_machine.proofs.StepGrowth.{left-adds}
use Rattle.ir_machine.proofs.TurnSteps.{step-there, stuck-nowhere}
use Rattle.ir_machine.proofs.turn.leave_and_return.Goals as goal

pub returns-in-Some-clause-step : goal.returns-in-Some-clause-step
returns-in-Some-clause-step c setting given fuel has goes =
    let left = c.leave.new.self.seen in
    let same : left ≡ left_at c.args.run.now.seen c.args.site = ap (λ (v : RunState). v.seen) c.in-Ok.ensures.state in
    let func : left.frame.func ≡ c.args.run.now.seen.frame.func = ap (λ (s : MachineSeen). s.frame.func) same in
    let there : slice_get c.args.insts.now left.frame.place ≡ Some c.in-Some.mi.now = rw (← c.place.ensures) (sym c.in-Some.ensures.found) in
    let found : slice_get (code_at c.args.code.now left.frame.func).insts left.frame.place ≡ Some c.in-Some.mi.now = rw (func, ← c.requires.here) there in
    subst (λ (s : MachineSeen). IsOutcome (steps_within setting given fuel s) c.returned.result c.returned.new.run) same
    (step-there setting given fuel left c.args.code.now c.in-Some.mi.now c.returned.result c.returned.new.run has.code found
    (λ stuck. goes (ap (steps_within setting given fuel) (sym same) ∙ stuck)) (λ next. c.returned.ensures.step setting given next has))

pub returns-in-Some-clause-adds : goal.returns-in-Some-clause-adds
returns-in-Some-clause-adds c some =
    let seen = c.args.run.now.seen in
    subst (AddsChain seen.shared) (sym (c.returned.ensures.keeps some))
    (left-adds seen c.args.site c.leave.new.self.seen.shared (ap (λ (v : RunState). v.seen.shared) c.in-Ok.ensures.state) c.in-Ok.ensures.stack)

pub returns-in-None-clause-step : goal.returns-in-None-clause-step
returns-in-None-clause-step c setting given fuel has goes =
    let left = c.leave.new.self.seen in
    let same : left ≡ left_at c.args.run.now.seen c.args.site = ap (λ (v : RunState). v.seen) c.in-Ok.ensures.state in
    let func : left.frame.func ≡ c.args.run.now.seen.frame.func = ap (λ (s : MachineSeen). s.frame.func) same in
    let there : slice_get c.args.insts.now left.frame.place ≡ None = rw (← c.place.ensures) (sym c.in-None.ensures.found) in
    let none : slice_get (code_at c.args.code.now left.frame.func).insts left.frame.place ≡ None = rw (func, ← c.requires.here) there in
    absurd (goes (ap (steps_within setting given fuel) (sym same) ∙ stuck-nowhere setting given fuel left c.args.code.now has.code none))

pub returns-in-None-clause-adds : goal.returns-in-None-clause-adds
returns-in-None-clause-adds c some =
    left-adds c.args.run.now.seen c.args.site c.leave.new.self.seen.shared (ap (λ (v : RunState). v.seen.shared) c.in-Ok.ensures.state) c.in-Ok.ensures.stack
