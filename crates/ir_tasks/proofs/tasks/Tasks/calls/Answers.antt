use Rattle.std.proofs.Common.{Some, ap, ◌∙◌}
use Rattle.ir_tasks.proofs.TaskChanges.{unfinished-inside, frames-at, old-kept, old-unfinished}
use Rattle.ir_tasks.proofs.TaskLemmas.{newest-place}
use Rattle.ir_tasks.proofs.tasks.Tasks.calls.Goals as goal

pub calls-requires : goal.calls-requires
calls-requires c =
    let s = c.self.inside in
    let inside = unfinished-inside s.tasks.items c.args.self.now c.args.task c.self.view_is c.requires in
    old-unfinished s.tasks.items c.args.task c.index.result.now inside c.index.ensures c.args.self.now c.self.view_is c.index.result.now c.requires

pub returns-clause-frames : goal.returns-clause-frames
returns-clause-frames c =
    let s = c.self.inside in
    let inside = unfinished-inside s.tasks.items c.args.self.now c.args.task c.self.view_is c.requires in
    frames-at s.tasks.items c.args.task c.index.result.now inside c.index.ensures c.args.self.now c.self.view_is c.index.result.now
    ∙ ap Some c.calls.ensures

pub returns-clause-place : goal.returns-clause-place
returns-clause-place c =
    let s = c.self.inside in
    let inside = unfinished-inside s.tasks.items c.args.self.now c.args.task c.self.view_is c.requires in
    newest-place c.calls.result.now.frame c.calls.result.now.callers _ c.calls.ensures
    (old-kept s.tasks.items c.args.task c.index.result.now inside c.index.ensures c.args.self.now c.self.view_is c.index.result.now s.unfinished c.self.invariant)
