use Rattle.std.proofs.Common.{◌≡◌, refl, ap, sym, ◌∙◌, subst}
use Rattle.hw_base.specs.declared.accesses.Access.TheVariants.{Read}
use Rattle.tbi_memory.specs.AddressSpace.{AddressSpace}
use Rattle.ir_machine.specs.ByteFunctions.{copy_step}
use Rattle.ir_machine.specs.RunStates.{RunState, IsOutcome, ending_of, only_task, shared_of}
use Rattle.ir_machine.specs.State.{MachineOutcome, MachineSeen}
use Rattle.ir_machine.specs.StepEnds.{gives_to, with_memory}
use Rattle.ir_machine.proofs.BlockSteps.{move, move-goes}
use Rattle.ir_machine.proofs.Outcomes.{from_plain}
use Rattle.ir_machine.proofs.run.Run.copy.Goals as goal

pub returns-in-Ok : goal.returns-in-Ok
unfolding copy_step
returns-in-Ok c =
    let inside = c.self.inside in
    let site = c.args.site in
    let target = c.args.target in
    let from = c.args.from in
    let memory = c.copy.new.mem in
    let before : RunState = record {
      seen = only_task (shared_of inside.memory inside.globals inside.heap.state inside.stacks inside.births inside.drawn inside.chains) inside.calls inside.step;
      printed = inside.printed.items;
      ending = ending_of inside.ending;
    } in
    let go : MachineSeen → MachineOutcome = λ after. gives_to after c.args.to target in
    let moved : move before.seen site from target c.args.n go ≡ go (with_memory before.seen memory) = move-goes before.seen site from target c.args.n go memory c.in-Ok.ensures.ok in
    let ended : IsOutcome (go (with_memory before.seen memory)) c.give_result.result c.give_result.new.self =
    from_plain (go (with_memory before.seen memory)) c.give_result.result c.give_result.new.self c.give_result.ensures in
    subst (λ (v : RunState). IsOutcome (move v.seen site from target c.args.n go) c.give_result.result c.give_result.new.self) c.self.view_is
    (subst (λ (o : MachineOutcome). IsOutcome o c.give_result.result c.give_result.new.self) (sym moved) ended)

pub returns-in-Err : goal.returns-in-Err
unfolding copy_step
returns-in-Err c =
    let inside = c.self.inside in
    let seen = c.args.self.now.seen in
    let site = c.args.site in
    let target = c.args.target in
    let from = c.args.from in
    let refused = c.in-Err.ensures.err c.in-Err.fault refl in
    let go : MachineSeen → MachineOutcome = λ after. gives_to after c.args.to target in
    let unchanged = ap (λ (space : AddressSpace). only_task (shared_of space inside.globals inside.heap.state inside.stacks inside.births inside.drawn inside.chains) inside.calls inside.step) refused.1
    ∙ ap (λ (v : RunState). v.seen) c.self.view_is in
    subst (λ (s : MachineSeen). IsOutcome (move s site from target c.args.n go) c.not_moved.result c.not_moved.new.self) unchanged (c.not_moved.ensures.step go)
