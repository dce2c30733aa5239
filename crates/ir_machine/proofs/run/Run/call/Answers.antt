use Rattle.std.proofs.Common.{◌≡◌, suc, false, length, arith}
use Rattle.std.specs.Prelude.{nat_le}
use Rattle.std.proofs.lemmas.Bool.Decides.{nat_tests}
use Rattle.hw_base.specs.declared.endings.Trap.TheVariants.{TooDeep}
use Rattle.ir_machine.specs.CallSteps.{call_step}
use Rattle.ir_machine.specs.StepEnds.{traps}
use Rattle.ir_machine.proofs.Outcomes.{from_plain}
use Rattle.ir_machine.proofs.Growth.{outcome-little}
use Rattle.ir_machine.proofs.StepGrowth.{traps-add}
use Rattle.ir_machine.proofs.run.Run.call.Goals as goal

pub returns-clause-step : goal.returns-clause-step
unfolding call_step
returns-clause-step c setting has next =
    let most = has.has.most_frames in
    let shallow : nat_le setting.places.most_frames (suc (length c.args.self.now.seen.callers)) ≡ false = grind (arith, nat_tests) in
    rw shallow (c.enter.ensures.step setting has next)

pub returns-then-depth-clause-grows : goal.returns-then-depth-clause-grows
returns-then-depth-clause-grows c some =
    let seen = c.args.self.now.seen in
    let outcome = traps seen c.args.site TooDeep in
    outcome-little c.args.words.now seen.shared outcome c.trap.result c.trap.new.self (from_plain outcome c.trap.result c.trap.new.self c.trap.ensures) some (traps-add seen c.args.site TooDeep)
