use Rattle.std.proofs.Common.{map, length, ◌<◌, arith}
use Rattle.std.proofs.lemmas.List.{length-map}
use Rattle.hw_base.specs.declared.numbers.TheConstants.{MOST_TASKS}
use Rattle.ir_tasks.specs.CallStacks.{fresh_frame}
use Rattle.ir_tasks.specs.TaskStates.{task_frames}
use Rattle.ir_tasks.proofs.TaskChanges.{started-tasks}
use Rattle.ir_tasks.proofs.TaskLemmas.{count-few}
use Rattle.ir_tasks.proofs.tasks.Tasks.start.Goals as goal

pub overflow_add-self : goal.overflow_add-self
overflow_add-self c =
    let s = c.self.inside in
    let few = count-few (map task_frames s.tasks.items) s.unfinished c.self.invariant in
    omega (arith, few)

pub invariant_of-self-2 : goal.invariant_of-self-2
invariant_of-self-2 c =
    let s = c.self.inside in
    let few = c.self.invariant.few in
    let same = length-map s.tasks.items task_frames in
    let room : length s.tasks.items < MOST_TASKS = omega (arith, few, same, s.tasks.ok.0) in
    started-tasks s.tasks.items c.push.new.self.items s.unfinished c.in-Ok.calls (fresh_frame c.args.func c.args.registers 0 c.args.chain)
    c.in-Ok-push.ensures.items c.in-Ok.ensures c.self.invariant room (omega arith)
