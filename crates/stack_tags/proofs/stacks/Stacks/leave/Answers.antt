use Rattle.std.proofs.Common.{◌≡◌, List, length, Some, set, ap, sym, ◌∙◌, refl, arith}
use Rattle.std.specs.Prelude.{slice_get}
use Rattle.std.proofs.lemmas.Option.{slice_get_read, slice_get_past}
use Rattle.tbi_memory.specs.AddressSpace.{AddressSpace}
use Rattle.stack_tags.specs.Frames.{StacksState, frames_of, no_frames}
use Rattle.stack_tags.specs.FrameSteps.{StacksAfter, left}
use Rattle.stack_tags.specs.KeptFrames.{OneStack, memory_left, stacks_of}
use Rattle.stack_tags.proofs.TaskStackLemmas.{left-at, left-none, frames-none}
use Rattle.stack_tags.proofs.stacks.Stacks.leave.Goals as goal

pub returns-then-task-len-clause-left : goal.returns-then-task-len-clause-left
returns-then-task-len-clause-left c =
    let s = c.self.inside in
    let len = c.len.ensures in
    let test = c.if-task-len.true in
    let there = slice_get_read s.tasks.items (length s.tasks.items) c.args.task c.index_mut.result.now refl (omega (arith, len, test, s.tasks.ok.0)) c.index_mut.ensures.value in
    ap (λ (o : StacksState). left o c.args.mem.now c.args.task c.args.died) (sym c.self.view_is)
    ∙ left-at s.tasks.items s.ring c.args.task c.index_mut.result.now there c.self.invariant c.args.mem.now c.args.died
    ∙ ap (λ (o : OneStack). record { stacks = stacks_of (set s.tasks.items c.args.task o) s.ring; space = memory_left c.args.mem.now c.index_mut.result.now.frames.living }) (sym c.leave.ensures.frames)
    ∙ ap (λ (m : AddressSpace). record { stacks = stacks_of (set s.tasks.items c.args.task c.leave.new.self) s.ring; space = m }) (sym c.leave.ensures.memory)

pub returns-else-task-len-clause-left : goal.returns-else-task-len-clause-left
returns-else-task-len-clause-left c =
    let s = c.self.inside in
    let len = c.len.ensures in
    let test = c.if-task-len.false in
    let none = frames-none s.tasks.items s.ring c.args.task (slice_get_past s.tasks.items c.args.task (omega (arith, len, test, s.tasks.ok.0))) in
    left-none c.args.self.now c.args.mem.now c.args.task c.args.died (ap (λ (o : StacksState). frames_of o c.args.task) (sym c.self.view_is) ∙ none)
