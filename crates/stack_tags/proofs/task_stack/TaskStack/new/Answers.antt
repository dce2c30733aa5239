use Rattle.std.proofs.Common.{refl}
use Rattle.stack_tags.specs.KeptFrames.{living_of}
use Rattle.stack_tags.proofs.StackLemmas.{IsStack-none}
use Rattle.stack_tags.proofs.task_stack.TaskStack.new.Goals as goal

pub invariant_of-result : goal.invariant_of-result
invariant_of-result c =
    rw c.new-3.ensures.items (IsStack-none c.args.end c.new-2.result.items c.requires.whole c.requires.not_below c.requires.small)

pub returns : goal.returns
unfolding living_of
returns c = rw (c.new-3.ensures.items, c.in_ok-ended.ensures.empty, c.in_ok-ended.ensures.size) refl
