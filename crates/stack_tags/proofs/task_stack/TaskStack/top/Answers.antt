use Rattle.std.proofs.Common.{◌≡◌, ◌+◌, ◌≤◌, ◌%◌, List, ℕ, ap, sym, ◌∙◌, subst, arith}
use Rattle.std.specs.Prelude.{reverse}
use Rattle.hw_base.specs.declared.numbers.TheConstants.{STACK_LENGTH}
use Rattle.stack_tags.specs.Frames.{top_above}
use Rattle.stack_tags.specs.KeptFrames.{OneStack, living_of, top_of_entered}
use Rattle.stack_tags.specs.declared.entered_frames.EnteredFrame.{EnteredFrame}
use Rattle.stack_tags.proofs.StackLemmas.{living-top, top-whole, top-not_above}
use Rattle.stack_tags.proofs.task_stack.TaskStack.top.Goals as goal

here : (c : goal.After-top_of) → c.top_of.result ≡ top_above c.self.inside.end (living_of c.self.inside.variables.items (reverse c.self.inside.entered.items))
here c =
    let s = c.self.inside in
    c.top_of.ensures
    ∙ ap (λ (frames : List EnteredFrame). top_of_entered s.end (reverse frames)) c.as_slice.ensures.value
    ∙ sym (living-top s.end s.variables.items (reverse s.entered.items))

end_ : (c : goal.After-top_of) → c.self.inside.end ≡ c.args.self.now.end
end_ c = ap (λ (o : OneStack). o.end) c.self.view_is

pub returns-clause-value : goal.returns-clause-value
returns-clause-value c = here c ∙ ap (λ (o : OneStack). top_above o.end o.frames.living) c.self.view_is

pub returns-clause-not_above : goal.returns-clause-not_above
returns-clause-not_above c =
    let s = c.self.inside in
    let at = here c in
    let end = end_ c in
    let above = top-not_above s.end (living_of s.variables.items (reverse s.entered.items)) c.self.invariant.follow in
    omega (arith, at, end, above)

pub returns-clause-within : goal.returns-clause-within
returns-clause-within c =
    let at = here c in
    let end = end_ c in
    let begins = c.self.invariant.begins in
    omega (arith, at, end, begins)

pub returns-clause-whole : goal.returns-clause-whole
returns-clause-whole c =
    let s = c.self.inside in
    let at = here c in
    let even = top-whole s.end (living_of s.variables.items (reverse s.entered.items)) c.self.invariant.end_whole c.self.invariant.follow in
    omega (arith, at, even)
