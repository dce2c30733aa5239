use Rattle.std.proofs.Common.{arith, ◌≡◌, ◌+◌, ap, ◌∙◌}
use Rattle.ir_tasks.specs.CallStacks.{Calls}
use Rattle.ir_tasks.specs.Frames.{with_register}
use Rattle.ir_tasks.proofs.CallStackLemmas.{calls-set}
use Rattle.ir_tasks.proofs.call_stack.CallStack.set_register.Goals as goal

pub returns-then-at-len : goal.returns-then-at-len
returns-then-at-len c =
    let s = c.self.inside in
    let at : c.saturating_add-at.result ≡ s.newest.base + c.args.r = omega arith in
    let e = calls-set s.registers.items s.newest s.older.items c.args.r c.args.number in
    rw at (e ∙ ap (λ (calls : Calls). record calls { frame = with_register calls.frame c.args.r c.args.number }) c.self.view_is)
