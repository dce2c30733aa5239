use Rattle.std.proofs.Common.{ap, sym, ◌∙◌}
use Rattle.hw_tags.specs.TaskRuns.{is_finished}
use Rattle.ir_tasks.specs.TaskStates.{task_frames}
use Rattle.ir_tasks.proofs.TaskChanges.{unfinished-inside, finished-same, finished-tasks, frames-set, popped-tasks, same-frames, some-unfinished}
use Rattle.ir_tasks.proofs.TaskLemmas.{no_frame}
use Rattle.ir_tasks.proofs.tasks.Tasks.pop.Goals as goal

pub overflow_sub-self : goal.overflow_sub-self
overflow_sub-self c =
    let s = c.self.inside in
    let inside = unfinished-inside s.tasks.items c.args.self.now c.args.task c.self.view_is c.requires in
    some-unfinished s.tasks.items c.args.task c.index_mut.result.now inside c.index_mut.ensures.value c.args.self.now c.self.view_is c.end_call-last.new.self s.unfinished c.requires c.self.invariant

pub invariant_of-self : goal.invariant_of-self
invariant_of-self c =
    let s = c.self.inside in
    let inside = unfinished-inside s.tasks.items c.args.self.now c.args.task c.self.view_is c.requires in
    let none = no_frame (task_frames c.end_call-last.new.self) (sym c.end_call-last.ensures.last ∙ c.if-last.true) in
    finished-tasks s.tasks.items c.args.task c.index_mut.result.now inside c.index_mut.ensures.value c.args.self.now c.self.view_is c.end_call-last.new.self s.unfinished c.requires c.self.invariant none

pub invariant_of-self-else-last : goal.invariant_of-self-else-last
invariant_of-self-else-last c =
    let s = c.self.inside in
    let inside = unfinished-inside s.tasks.items c.args.self.now c.args.task c.self.view_is c.requires in
    let goes_on = sym c.end_call-last.ensures.last ∙ c.if-last.false in
    popped-tasks s.tasks.items c.args.task c.index_mut.result.now inside c.index_mut.ensures.value c.args.self.now c.self.view_is c.end_call-last.new.self s.unfinished c.requires c.self.invariant c.end_call-last.ensures.frames goes_on

pub returns-then-last-clause-frames : goal.returns-then-last-clause-frames
returns-then-last-clause-frames c frame callers has =
    let s = c.self.inside in
    let inside = unfinished-inside s.tasks.items c.args.self.now c.args.task c.self.view_is c.requires in
    frames-set s.tasks.items c.args.task c.index_mut.result.now inside c.index_mut.ensures.value c.args.self.now c.self.view_is c.end_call-last.new.self callers (c.end_call-last.ensures.frames frame callers (same-frames s.tasks.items c.args.task c.index_mut.result.now inside c.index_mut.ensures.value c.args.self.now c.self.view_is c.end_call-last.new.self _ has))

pub returns-then-last-clause-last : goal.returns-then-last-clause-last
returns-then-last-clause-last c frame callers has =
    let s = c.self.inside in
    let inside = unfinished-inside s.tasks.items c.args.self.now c.args.task c.self.view_is c.requires in
    c.end_call-last.ensures.last ∙ ap is_finished (c.end_call-last.ensures.frames frame callers (same-frames s.tasks.items c.args.task c.index_mut.result.now inside c.index_mut.ensures.value c.args.self.now c.self.view_is c.end_call-last.new.self _ has))

pub returns-else-last-clause-frames : goal.returns-else-last-clause-frames
returns-else-last-clause-frames c frame callers has =
    let s = c.self.inside in
    let inside = unfinished-inside s.tasks.items c.args.self.now c.args.task c.self.view_is c.requires in
    frames-set s.tasks.items c.args.task c.index_mut.result.now inside c.index_mut.ensures.value c.args.self.now c.self.view_is c.end_call-last.new.self callers (c.end_call-last.ensures.frames frame callers (same-frames s.tasks.items c.args.task c.index_mut.result.now inside c.index_mut.ensures.value c.args.self.now c.self.view_is c.end_call-last.new.self _ has))

pub returns-else-last-clause-last : goal.returns-else-last-clause-last
returns-else-last-clause-last c frame callers has =
    let s = c.self.inside in
    let inside = unfinished-inside s.tasks.items c.args.self.now c.args.task c.self.view_is c.requires in
    c.end_call-last.ensures.last ∙ ap is_finished (c.end_call-last.ensures.frames frame callers (same-frames s.tasks.items c.args.task c.index_mut.result.now inside c.index_mut.ensures.value c.args.self.now c.self.view_is c.end_call-last.new.self _ has))

pub returns-else-last-clause-goes_on : goal.returns-else-last-clause-goes_on
returns-else-last-clause-goes_on c going =
    let s = c.self.inside in
    let inside = unfinished-inside s.tasks.items c.args.self.now c.args.task c.self.view_is c.requires in
    let goes_on = sym c.end_call-last.ensures.last ∙ c.if-last.false in
    finished-same s.tasks.items c.args.task c.index_mut.result.now inside c.index_mut.ensures.value c.args.self.now c.self.view_is c.end_call-last.new.self c.requires goes_on
