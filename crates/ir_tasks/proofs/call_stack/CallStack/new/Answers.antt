use Rattle.std.proofs.Common.{refl}
use Rattle.ir_tasks.specs.CallStacks.{frames_of}
use Rattle.ir_tasks.proofs.call_stack.CallStack.new.Goals as goal

pub returns : goal.returns
unfolding frames_of
returns c =
    let zeros = c.in-Ok.ensures.items_if_clones_equal (λ y q. q) in
    rw (zeros, c.new.ensures.items) refl
