use Rattle.ir_tasks.specs.Frames.{Frame, with_register}
use Rattle.ir_tasks.proofs.TaskChanges.{unfinished-inside, changed-finished, changed-tasks, frames-set, same-frames}
use Rattle.ir_tasks.proofs.tasks.Tasks.set.Goals as goal

pub invariant_of-self : goal.invariant_of-self
invariant_of-self c =
    let s = c.self.inside in
    let inside = unfinished-inside s.tasks.items c.args.self.now c.args.task c.self.view_is c.requires in
    changed-tasks s.tasks.items c.args.task c.index_mut.result.now inside c.index_mut.ensures.value c.args.self.now c.self.view_is c.set_register.new.self
    (λ (frame : Frame). with_register frame c.args.r c.args.v) c.set_register.ensures c.requires s.unfinished c.self.invariant (λ frame place. place)

pub returns-clause-frames : goal.returns-clause-frames
returns-clause-frames c frame callers has =
    let s = c.self.inside in
    let inside = unfinished-inside s.tasks.items c.args.self.now c.args.task c.self.view_is c.requires in
    frames-set s.tasks.items c.args.task c.index_mut.result.now inside c.index_mut.ensures.value c.args.self.now c.self.view_is c.set_register.new.self _
    (c.set_register.ensures frame callers
    (same-frames s.tasks.items c.args.task c.index_mut.result.now inside c.index_mut.ensures.value c.args.self.now c.self.view_is c.set_register.new.self _ has))

pub returns-clause-finished : goal.returns-clause-finished
returns-clause-finished c =
    let s = c.self.inside in
    let inside = unfinished-inside s.tasks.items c.args.self.now c.args.task c.self.view_is c.requires in
    changed-finished s.tasks.items c.args.task c.index_mut.result.now inside c.index_mut.ensures.value c.args.self.now c.self.view_is c.set_register.new.self
    (λ (frame : Frame). with_register frame c.args.r c.args.v) c.set_register.ensures c.requires
