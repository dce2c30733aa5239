use Rattle.std.proofs.Common.{◌≡◌, ◌+◌, refl, subst, Ok}
use Rattle.hw_tags.specs.Words.{coming}
use Rattle.tag_alloc.specs.HeapSteps.{AfterBirth, allocated}
use Rattle.ir_machine.specs.BlockFunctions.{with_birth}
use Rattle.ir_machine.specs.RunStates.{RunState, ending_of, only_task, shared_of}
use Rattle.ir_machine.proofs.run.Run.new_block.Goals as goal

pub returns-in-Ok-clause-ok : goal.returns-in-Ok-clause-ok
returns-in-Ok-clause-ok c =
    let inside = c.self.inside in
    let after : AfterBirth = record { heap = c.malloc.new.self.state; space = c.malloc.new.mem; number = c.in-Ok.number } in
    let state : RunState = record {
      seen = only_task (shared_of c.malloc.new.mem inside.globals c.malloc.new.self.state inside.stacks (inside.births + 1) (inside.drawn + 1) inside.chains) inside.calls inside.step;
      printed = inside.printed.items;
      ending = ending_of inside.ending;
    } in
    subst (λ (v : RunState). (x : AfterBirth) × (allocated v.seen.shared.heap v.seen.shared.memory (coming c.args.words.now 0) c.args.size v.seen.shared.births c.args.chain ≡ Ok x)
    × (x.number ≡ c.in-Ok.number) × (state ≡ record v { seen = with_birth v.seen x })) c.self.view_is (after, c.in-Ok.ensures.ok, refl, refl)
