use Rattle.std.proofs.Common.{◌≡◌, refl, ap, sym, ◌∙◌, subst, Some}
use Rattle.hw_base.specs.declared.accesses.Access.TheVariants.{Read}
use Rattle.tag_alloc.specs.HeapBlocks.{freed_block}
use Rattle.tbi_memory.specs.AddressSpace.{AddressSpace}
use Rattle.ir_machine.specs.BlockFunctions.{block_freed, moved_block}
use Rattle.ir_machine.specs.RunStates.{RunState, AreNext, IsOutcome, ending_of, only_task, shared_of}
use Rattle.ir_machine.specs.State.{MachineOutcome, MachineSeen}
use Rattle.ir_machine.specs.StepEnds.{gives_to, with_memory, with_read, with_write}
use Rattle.ir_machine.proofs.BlockSteps.{move, move-goes}
use Rattle.ir_machine.proofs.run.Run.move_block.Goals as goal

pub returns-in-Ok-clause-step : goal.returns-in-Ok-clause-step
returns-in-Ok-clause-step c setting block size next found same =
    let inside = c.self.inside in
    let site = c.args.site in
    let number = c.args.number in
    let new = c.args.new in
    let memory = c.move_bytes.new.self in
    let before : RunState = record {
      seen = only_task (shared_of inside.memory inside.globals inside.heap.state inside.stacks inside.births inside.drawn inside.chains) inside.calls inside.step;
      printed = inside.printed.items;
      ending = ending_of inside.ending;
    } in
    let words : AreNext setting c.args.words.now before.seen.shared.drawn =
    subst (λ (v : RunState). AreNext setting c.args.words.now v.seen.shared.drawn) (sym c.self.view_is) next in
    let there : freed_block before.seen.shared.heap number ≡ Some block =
    subst (λ (v : RunState). freed_block v.seen.shared.heap number ≡ Some block) (sym c.self.view_is) found in
    let go : MachineSeen → MachineOutcome = λ after. gives_to (block_freed setting after c.args.chain block) c.args.to new in
    let sized : moved_block setting site c.args.to number size c.args.chain block before.seen new ≡ move before.seen site number new c.args.n go =
    ap (λ k. move before.seen site number new k go) same in
    let moved : move before.seen site number new c.args.n go ≡ go (with_memory before.seen memory) = move-goes before.seen site number new c.args.n go memory c.in-Ok.ensures.ok in
    let ended : IsOutcome (go (with_memory before.seen memory)) c.end_moved.result c.end_moved.new.self = c.end_moved.ensures.step setting block words there in
    subst (λ (v : RunState). IsOutcome (moved_block setting site c.args.to number size c.args.chain block v.seen new) c.end_moved.result c.end_moved.new.self) c.self.view_is
    (subst (λ (o : MachineOutcome). IsOutcome o c.end_moved.result c.end_moved.new.self) (sym (sized ∙ moved)) ended)

pub returns-in-Err-clause-step : goal.returns-in-Err-clause-step
returns-in-Err-clause-step c setting block size next found same =
    let inside = c.self.inside in
    let seen = c.args.self.now.seen in
    let site = c.args.site in
    let number = c.args.number in
    let new = c.args.new in
    let refused = c.in-Err.ensures.err c.in-Err.fault refl in
    let go : MachineSeen → MachineOutcome = λ after. gives_to (block_freed setting after c.args.chain block) c.args.to new in
    let unchanged = ap (λ (space : AddressSpace). only_task (shared_of space inside.globals inside.heap.state inside.stacks inside.births inside.drawn inside.chains) inside.calls inside.step) refused.1
    ∙ ap (λ (v : RunState). v.seen) c.self.view_is in
    let ended : IsOutcome (move seen site number new c.args.n go) c.not_moved.result c.not_moved.new.self =
    subst (λ (s : MachineSeen). IsOutcome (move s site number new c.args.n go) c.not_moved.result c.not_moved.new.self) unchanged (c.not_moved.ensures.step go) in
    subst (λ k. IsOutcome (move seen site number new k go) c.not_moved.result c.not_moved.new.self) (sym same) ended
