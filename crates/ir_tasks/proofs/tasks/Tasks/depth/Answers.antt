use Rattle.std.proofs.Common.{List, length, ap, ◌∙◌, arith}
use Rattle.ir_tasks.specs.Frames.{Frame}
use Rattle.ir_tasks.proofs.TaskChanges.{started-inside, old-kept, same-frames}
use Rattle.ir_tasks.proofs.tasks.Tasks.depth.Goals as goal

pub overflow_cast-result : goal.overflow_cast-result
overflow_cast-result c =
    let s = c.self.inside in
    let inside = started-inside s.tasks.items c.args.self.now c.args.task c.self.view_is c.requires in
    let kept = old-kept s.tasks.items c.args.task c.index.result.now inside c.index.ensures c.args.self.now c.self.view_is c.index.result.now s.unfinished c.self.invariant in
    let few = kept.few in
    omega (arith, few, c.depth.ensures)

pub returns : goal.returns
returns c frames there =
    let s = c.self.inside in
    let inside = started-inside s.tasks.items c.args.self.now c.args.task c.self.view_is c.requires in
    c.depth.ensures
    ∙ ap (λ (fs : List Frame). length fs)
    (same-frames s.tasks.items c.args.task c.index.result.now inside c.index.ensures c.args.self.now c.self.view_is c.index.result.now frames there)
