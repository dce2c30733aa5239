use Rattle.std.proofs.Common.{◌≡◌, ◌+◌, length, ap, ◌∙◌, arith}
use Rattle.std.specs.Prelude.{vec_len}
use Rattle.ir_tasks.specs.declared.activation.Activation.{Activation}
use Rattle.ir_tasks.specs.CallStacks.{Calls, called, fresh_frame}
use Rattle.ir_tasks.proofs.CallStackLemmas.{calls-called, filled-up}
use Rattle.ir_tasks.proofs.call_stack.CallStack.call.Goals as goal

pub returns-clause-ok : goal.returns-clause-ok
returns-clause-ok c =
    let s = c.self.inside in
    let at : c.len-base.result ≡ length s.registers.items = omega (arith, s.registers.ok.0) in
    let same : vec_len s.registers ≡ length s.registers.items = omega (arith, s.registers.ok.0) in
    let filled = filled-up s.registers.items (c.len-base.result + c.args.registers) c.args.registers (omega arith) in
    let new : Activation = record { func = c.args.func; place = c.args.place; base = c.len-base.result; chain = c.args.chain } in
    let e = calls-called s.registers.items s.newest new s.older.items c.args.registers at in
    let seen = ap (λ (calls : Calls). called calls (fresh_frame c.args.func c.args.registers c.args.place c.args.chain)) c.self.view_is in
    rw (c.in-Ok-resize.ensures.items, c.in-Ok.ensures.items) (rw (same, filled) (e ∙ seen))
