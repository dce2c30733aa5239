use Rattle.std.proofs.Common.{◌≡◌, ◌+◌, ap, refl, ◌∙◌, arith}
use Rattle.hw_base.specs.AddressMap.{program_map}
use Rattle.global_tags.specs.GlobalPlaces.{global_words}
use Rattle.hw_tags.specs.Word.{word}
use Rattle.ir_tasks.specs.CallStacks.{fresh_frame}
use Rattle.stack_tags.specs.Frames.{stacks_at_start, with_task}
use Rattle.tag_alloc.specs.HeapBlocks as blocks
use Rattle.ir_machine.specs.RunStates.{first_state}
use Rattle.ir_machine.specs.State.{MachineShared}
use Rattle.ir_machine.proofs.StartLemmas.{heap-start, loaded-shared}
use Rattle.ir_machine.proofs.run.Run.new.Goals as goal

pub returns-clause-state : goal.returns-clause-state
returns-clause-state c =
    let m = c.args.program.now in
    let options = c.args.options.now in
    let births = c.first_births-births.result in
    let frames : c.add_task-2.new.self ≡ with_task (stacks_at_start (program_map options.heap) options.ring) = c.in_ok-add_task-2.ensures.ok ∙ ap with_task (c.new-stacks.ensures options.heap) in
    let heap : c.add_task.new.self.state ≡ blocks.with_task (blocks.heap_at_start (program_map options.heap) options.ring) = c.in_ok-add_task.ensures.ok ∙ ap blocks.with_task (c.in_ok-heap.ensures ∙ heap-start options.heap options.ring) in
    let shared = loaded-shared m options births births _ c.add_task.new.self.state c.add_task-2.new.self c.load.new.mem c.in_ok-memory.memory c.in_ok-globals.globals c.layout.result
    (c.requires.words.same 0) (c.in_ok-globals.ensures.descriptors options.heap) c.in_ok-globals.ensures.memory c.in_ok-memory.ensures.start
    c.layout.ensures.heap c.layout.ensures.layout heap frames c.first_births-births.ensures refl in
    let frame = fresh_frame c.args.func c.args.registers 0 0 in
    rw (c.new-4.ensures, c.new-5.ensures.items, c.in_ok-new.ensures) (ap (λ (s : MachineShared). first_state s frame) shared)

pub returns-clause-words : goal.returns-clause-words
returns-clause-words c k =
    let n = global_words c.args.program.now.globals + k in
    let place : 0 + n ≡ n = omega arith in
    c.in_ok-globals.ensures.words k ∙ (c.requires.words.same n ∙ ap (word c.args.options.now.tags) place)
