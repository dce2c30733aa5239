use Rattle.std.proofs.Common.{ap, arith}
use Rattle.std.proofs.lemmas.List.{length-reverse}
use Rattle.std.specs.Prelude.{length, reverse, take}
use Rattle.ir_tasks.specs.CallStacks.{Calls}
use Rattle.ir_tasks.proofs.CallStackLemmas.{length-frames_of}
use Rattle.ir_tasks.proofs.call_stack.CallStack.depth.Goals as goal

pub returns : goal.returns
returns c =
    let s = c.self.inside in
    let same = length-frames_of (take s.newest.base s.registers.items) (reverse s.older.items) in
    let turned = length-reverse s.older.items in
    let seen = ap (λ (calls : Calls). length calls.callers) c.self.view_is in
    omega (arith, same, turned, seen, s.older.ok.0)
