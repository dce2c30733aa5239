use Rattle.std.proofs.Common.{◌≡◌, ◌∷◌, [], ◌-◌, List, ap, sym, ◌∙◌, subst, arith}
use Rattle.std.specs.Prelude.{reverse}
use Rattle.std.proofs.lemmas.List.{append-nil, nil_from_length}
use Rattle.stack_tags.specs.KeptFrames.{OneStack, IsStack, living_of, top_of_entered, frames_left, memory_left}
use Rattle.stack_tags.specs.Frames.{LivingFrame}
use Rattle.stack_tags.specs.declared.variables.Variable.{Variable}
use Rattle.stack_tags.specs.declared.entered_frames.EnteredFrame.{EnteredFrame}
use Rattle.stack_tags.proofs.StackLemmas.{stack-seen, newest-popped, reverse-pushed, frames-left, memory-left, living-none, none-left}
use Rattle.stack_tags.proofs.task_stack.TaskStack.leave.Goals as goal

pub overflow_sub-end : goal.overflow_sub-end
overflow_sub-end c =
    let s = c.self.inside in
    let n = newest-popped s.end s.variables.items s.entered.items c.pop.new.self.items c.in-Some.newest c.in-Some.ensures.items c.self.invariant in
    let top = c.top_of-end.ensures ∙ ap (λ (frames : List EnteredFrame). top_of_entered s.end (reverse frames)) c.as_slice.ensures.value in
    let next = n.next in
    omega (arith, top, next)

pub tag_plain-requires-clause-place : goal.tag_plain-requires-clause-place
tag_plain-requires-clause-place c =
    let s = c.self.inside in
    (newest-popped s.end s.variables.items s.entered.items c.pop.new.self.items c.in-Some.newest c.in-Some.ensures.items c.self.invariant).whole

pub tag_plain-requires-clause-whole : goal.tag_plain-requires-clause-whole
tag_plain-requires-clause-whole c =
    let s = c.self.inside in
    let n = newest-popped s.end s.variables.items s.entered.items c.pop.new.self.items c.in-Some.newest c.in-Some.ensures.items c.self.invariant in
    let top = c.top_of-end.ensures ∙ ap (λ (frames : List EnteredFrame). top_of_entered s.end (reverse frames)) c.as_slice.ensures.value in
    let next = n.next in
    let whole = n.whole in
    let above_whole = n.above_whole in
    omega (arith, top, next, whole, above_whole)

pub tag_plain-requires-clause-end : goal.tag_plain-requires-clause-end
tag_plain-requires-clause-end c =
    let s = c.self.inside in
    let n = newest-popped s.end s.variables.items s.entered.items c.pop.new.self.items c.in-Some.newest c.in-Some.ensures.items c.self.invariant in
    let top = c.top_of-end.ensures ∙ ap (λ (frames : List EnteredFrame). top_of_entered s.end (reverse frames)) c.as_slice.ensures.value in
    let next = n.next in
    let above = n.above in
    let small = n.small in
    omega (arith, top, next, above, small)

pub invariant_of-self : goal.invariant_of-self
invariant_of-self c =
    let s = c.self.inside in
    subst (λ (variables : List Variable). IsStack s.end variables (reverse c.pop.new.self.items)) (sym c.truncate.ensures.items)
    (newest-popped s.end s.variables.items s.entered.items c.pop.new.self.items c.in-Some.newest c.in-Some.ensures.items c.self.invariant).rest

pub returns-in-Some-clause-frames : goal.returns-in-Some-clause-frames
returns-in-Some-clause-frames c =
    let s = c.self.inside in
    let frames_are = ap (λ (frames : List EnteredFrame). reverse frames) c.in-Some.ensures.items ∙ reverse-pushed c.pop.new.self.items c.in-Some.newest in
    let seen : stack-seen s.end s.ended.size (living_of s.variables.items (c.in-Some.newest ∷ reverse c.pop.new.self.items)) s.ended.kept ≡ c.args.self.now =
    ap (λ (frames : List EnteredFrame). stack-seen s.end s.ended.size (living_of s.variables.items frames) s.ended.kept) (sym frames_are) ∙ c.self.view_is in
    rw (c.truncate.ensures.items, c.push.ensures.kept, c.push.ensures.size)
    (frames-left s.end s.ended.size c.args.died s.variables.items c.in-Some.newest (reverse c.pop.new.self.items) s.ended.kept
    ∙ ap (λ (o : OneStack). record o { frames = frames_left o.ring c.args.died o.frames.living o.frames }) seen)

pub returns-in-Some-clause-memory : goal.returns-in-Some-clause-memory
returns-in-Some-clause-memory c =
    let s = c.self.inside in
    let n = newest-popped s.end s.variables.items s.entered.items c.pop.new.self.items c.in-Some.newest c.in-Some.ensures.items c.self.invariant in
    let top = c.top_of-end.ensures ∙ ap (λ (frames : List EnteredFrame). top_of_entered s.end (reverse frames)) c.as_slice.ensures.value in
    let next = n.next in
    let frames_are = ap (λ (frames : List EnteredFrame). reverse frames) c.in-Some.ensures.items ∙ reverse-pushed c.pop.new.self.items c.in-Some.newest in
    let seen : living_of s.variables.items (c.in-Some.newest ∷ reverse c.pop.new.self.items) ≡ c.args.self.now.frames.living =
    ap (λ (frames : List EnteredFrame). living_of s.variables.items frames) (sym frames_are) ∙ ap (λ (o : OneStack). o.frames.living) c.self.view_is in
    c.tag_plain.ensures
    ∙ memory-left c.args.mem.now s.variables.items c.in-Some.newest (reverse c.pop.new.self.items) (c.top_of-end.result - c.in-Some.newest.frame.low) (omega (arith, top, next))
    ∙ ap (λ (living : List LivingFrame). memory_left c.args.mem.now living) seen

pub returns-in-None-clause-frames : goal.returns-in-None-clause-frames
returns-in-None-clause-frames c =
    let s = c.self.inside in
    let same : s.entered.items ≡ c.pop.new.self.items = c.in-None.ensures.items ∙ append-nil c.pop.new.self.items in
    let none : s.entered.items ≡ [] = nil_from_length s.entered.items (omega (arith, c.in-None.ensures.cases.0, s.entered.ok.0)) in
    let empty : c.args.self.now.frames.living ≡ [] =
    sym (ap (λ (o : OneStack). o.frames.living) c.self.view_is) ∙ living-none s.variables.items (reverse s.entered.items) (ap (λ (frames : List EnteredFrame). reverse frames) none) in
    rw (← same) (c.self.view_is ∙ none-left c.args.self.now c.args.died empty)

pub returns-in-None-clause-memory : goal.returns-in-None-clause-memory
returns-in-None-clause-memory c =
    let s = c.self.inside in
    let none : s.entered.items ≡ [] = nil_from_length s.entered.items (omega (arith, c.in-None.ensures.cases.0, s.entered.ok.0)) in
    let empty : c.args.self.now.frames.living ≡ [] =
    sym (ap (λ (o : OneStack). o.frames.living) c.self.view_is) ∙ living-none s.variables.items (reverse s.entered.items) (ap (λ (frames : List EnteredFrame). reverse frames) none) in
    ap (λ (living : List LivingFrame). memory_left c.args.mem.now living) (sym empty)
