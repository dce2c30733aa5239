use Rattle.std.proofs.Common.{◌≡◌, ◌+◌, refl, subst, Ok}
use Rattle.hw_tags.specs.Words.{coming}
use Rattle.stack_tags.specs.FrameSteps.{StacksAfter, entered}
use Rattle.ir_machine.specs.CallSteps.{with_variables}
use Rattle.ir_machine.specs.RunStates.{RunState, ending_of, only_task, shared_of}
use Rattle.ir_machine.proofs.run.Run.enter_variables.Goals as goal

pub returns-in-Ok-clause-ok : goal.returns-in-Ok-clause-ok
returns-in-Ok-clause-ok c =
    let inside = c.self.inside in
    let after : StacksAfter = record { stacks = c.enter.new.self; space = c.enter.new.mem } in
    let state : RunState = record {
      seen = only_task (shared_of c.enter.new.mem inside.globals inside.heap.state c.enter.new.self (inside.births + 1) (inside.drawn + 1) inside.chains) inside.calls inside.step;
      printed = inside.printed.items;
      ending = ending_of inside.ending;
    } in
    subst (λ (v : RunState). (x : StacksAfter) × (entered v.seen.shared.stacks v.seen.shared.memory 0 c.args.func (coming c.args.words.now 0) c.args.sizes.now v.seen.shared.births c.args.chain ≡ Ok x)
    × (state ≡ record v { seen = record v.seen { shared = with_variables v.seen.shared x } })) c.self.view_is (after, c.in-Ok.ensures.ok, refl)
