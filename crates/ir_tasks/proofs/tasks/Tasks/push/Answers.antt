use Rattle.std.proofs.Common.{arith}
use Rattle.ir_tasks.specs.CallStacks.{fresh_frame}
use Rattle.ir_tasks.proofs.TaskChanges.{unfinished-inside, old-kept, old-unfinished, pushed-err, pushed-finished, pushed-ok, pushed-tasks}
use Rattle.ir_tasks.proofs.tasks.Tasks.push.Goals as goal

pub call-requires-clause-unfinished : goal.call-requires-clause-unfinished
call-requires-clause-unfinished c =
    let s = c.self.inside in
    let inside = unfinished-inside s.tasks.items c.args.self.now c.args.task c.self.view_is c.requires.unfinished in
    old-unfinished s.tasks.items c.args.task c.index_mut.result.now inside c.index_mut.ensures.value c.args.self.now c.self.view_is c.index_mut.result.now c.requires.unfinished

pub call-requires-clause-places : goal.call-requires-clause-places
call-requires-clause-places c =
    let s = c.self.inside in
    let inside = unfinished-inside s.tasks.items c.args.self.now c.args.task c.self.view_is c.requires.unfinished in
    (old-kept s.tasks.items c.args.task c.index_mut.result.now inside c.index_mut.ensures.value c.args.self.now c.self.view_is c.index_mut.result.now s.unfinished c.self.invariant).places

pub invariant_of-self : goal.invariant_of-self
invariant_of-self c =
    let s = c.self.inside in
    let inside = unfinished-inside s.tasks.items c.args.self.now c.args.task c.self.view_is c.requires.unfinished in
    pushed-tasks s.tasks.items c.args.task c.index_mut.result.now inside c.index_mut.ensures.value c.args.self.now c.self.view_is c.call.new.self c.call.result (fresh_frame c.args.func c.args.registers 0 c.args.chain) (omega arith) c.call.ensures.ok c.call.ensures.err c.requires.unfinished s.unfinished c.self.invariant c.requires.room

pub returns-clause-ok : goal.returns-clause-ok
returns-clause-ok c =
    let s = c.self.inside in
    let inside = unfinished-inside s.tasks.items c.args.self.now c.args.task c.self.view_is c.requires.unfinished in
    pushed-ok s.tasks.items c.args.task c.index_mut.result.now inside c.index_mut.ensures.value c.args.self.now c.self.view_is c.call.new.self c.call.result (fresh_frame c.args.func c.args.registers 0 c.args.chain) (omega arith) c.call.ensures.ok c.call.ensures.err c.requires.unfinished

pub returns-clause-err : goal.returns-clause-err
returns-clause-err c =
    let s = c.self.inside in
    let inside = unfinished-inside s.tasks.items c.args.self.now c.args.task c.self.view_is c.requires.unfinished in
    pushed-err s.tasks.items c.args.task c.index_mut.result.now inside c.index_mut.ensures.value c.args.self.now c.self.view_is c.call.new.self c.call.result (fresh_frame c.args.func c.args.registers 0 c.args.chain) (omega arith) c.call.ensures.ok c.call.ensures.err c.requires.unfinished

pub returns-clause-finished : goal.returns-clause-finished
returns-clause-finished c =
    let s = c.self.inside in
    let inside = unfinished-inside s.tasks.items c.args.self.now c.args.task c.self.view_is c.requires.unfinished in
    pushed-finished s.tasks.items c.args.task c.index_mut.result.now inside c.index_mut.ensures.value c.args.self.now c.self.view_is c.call.new.self c.call.result (fresh_frame c.args.func c.args.registers 0 c.args.chain) (omega arith) c.call.ensures.ok c.call.ensures.err c.requires.unfinished
