use Rattle.std.proofs.Common.{Some, ap, sym, ◌∙◌}
use Rattle.ir_tasks.specs.TaskStates.{task_frames}
use Rattle.ir_tasks.proofs.TaskChanges.{started-inside, frames-at}
use Rattle.ir_tasks.proofs.TaskLemmas.{finished_of-at}
use Rattle.ir_tasks.proofs.tasks.Tasks.is_finished.Goals as goal

pub returns : goal.returns
returns c =
    let s = c.self.inside in
    let inside = started-inside s.tasks.items c.args.self.now c.args.task c.self.view_is c.requires in
    finished_of-at c.args.self.now c.args.task (task_frames c.index.result.now)
    (frames-at s.tasks.items c.args.task c.index.result.now inside c.index.ensures c.args.self.now c.self.view_is c.index.result.now)
    ∙ ap Some (sym c.is_finished.ensures)
