use Rattle.std.proofs.Common.{map, sym, ◌∙◌, arith}
use Rattle.std.proofs.lemmas.List.{length-map}
use Rattle.hw_tags.specs.TaskRuns.{is_finished, finished_of}
use Rattle.ir_tasks.specs.TaskStates.{task_frames}
use Rattle.ir_tasks.proofs.TurnLemmas.{passed, found, counted, all_passed}
use Rattle.ir_tasks.proofs.tasks.nth_unfinished.Goals as goal

pub loop-task-preserved-then-is_finished : goal.loop-task-preserved-then-is_finished
loop-task-preserved-then-is_finished c =
    passed c.args.tasks.now c.loop-task.task c.index-tasks-task.result (omega arith) c.index-tasks-task.is c.loop-task.left c.args.n c.loop-task.invariant
    (sym c.is_finished.ensures ∙ c.if-is_finished.true)

pub returns-then-left-eq0 : goal.returns-then-left-eq0
returns-then-left-eq0 c =
    found c.args.tasks.now c.loop-task.task c.index-tasks-task.result (omega arith) c.index-tasks-task.is c.loop-task.left c.args.n c.loop-task.invariant
    (sym c.is_finished.ensures ∙ c.if-is_finished.false) c.if-left-eq0.true

pub loop-task-preserved : goal.loop-task-preserved
loop-task-preserved c =
    counted c.args.tasks.now c.loop-task.task c.index-tasks-task.result (omega arith) c.index-tasks-task.is c.loop-task.left c.args.n c.loop-task.invariant
    (sym c.is_finished.ensures ∙ c.if-is_finished.false) (omega arith)

pub unreachable-requires : goal.unreachable-requires
unreachable-requires c =
    let bits = length-map (map task_frames c.args.tasks.now) is_finished in
    let frames = length-map c.args.tasks.now task_frames in
    all_passed (finished_of (map task_frames c.args.tasks.now)) c.loop-task.task c.loop-task.left c.args.n (omega (arith, bits, frames)) c.loop-task.invariant c.requires.some
