use Rattle.std.proofs.Common.{◌≡◌, ◌+◌, ◌*◌, ◌<◌, List, length, ap, sym, subst, arith}
use Rattle.std.specs.Prelude.{is_ok}
use Rattle.hw_base.specs.declared.numbers.TheConstants.{MOST_TASKS, STACKS_AT, STACK_LENGTH}
use Rattle.std.proofs.lemmas.List.{length-map}
use Rattle.stack_tags.specs.Frames.{StacksState}
use Rattle.stack_tags.specs.KeptFrames.{OneStack, AreTaskStacks}
use Rattle.stack_tags.proofs.TaskStackLemmas.{stacks-added, stacks-pushed}
use Rattle.stack_tags.proofs.stacks.Stacks.add_task.Goals as goal

pub invariant_of-self : goal.invariant_of-self
invariant_of-self c =
    let s = c.self.inside in
    let new = c.in-Ok.task in
    let count = length-map s.tasks.items (λ (stack : OneStack). stack.frames) in
    let seen = ap (λ (o : StacksState). length o.tasks) c.self.view_is in
    let room : length s.tasks.items < MOST_TASKS = let r = c.requires in omega (arith, count, seen, r) in
    let len = c.len.ensures in
    let end_ = ap (λ (o : OneStack). o.end) c.in-Ok.ensures in
    let end : new.end ≡ STACKS_AT + (length s.tasks.items + 1) * STACK_LENGTH = omega (arith, len, end_, s.tasks.ok.0) in
    subst (λ (stacks : List OneStack). AreTaskStacks stacks s.ring) (sym c.push.ensures.items)
    (stacks-pushed (is_ok c.push.result) s.tasks.items s.ring new c.self.invariant
    (stacks-added s.tasks.items s.ring new c.self.invariant room end (ap (λ (o : OneStack). o.ring) c.in-Ok.ensures)))
