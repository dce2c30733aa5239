use Rattle.std.proofs.Common.{sym, ◌∙◌, arith}
use Rattle.tbi_memory.proofs.PartLemmas.{byte_at-heap, byte_at-stacks, byte_at-variables, byte_at-constants}
use Rattle.tbi_memory.proofs.memory.Memory.byte_of.Goals as goal

pub returns-then-self-a : goal.returns-then-self-a
returns-then-self-a c =
    let m = c.self.inside in
    rw (← c.self.view_is) (c.byte.ensures ∙ sym (byte_at-heap m.constants m.variables m.stacks m.heap c.self.invariant c.args.a (omega arith)))

pub returns-then-self-a-2 : goal.returns-then-self-a-2
returns-then-self-a-2 c =
    let m = c.self.inside in
    rw (← c.self.view_is) (c.byte-then-self-a-2.ensures ∙ sym (byte_at-stacks m.constants m.variables m.stacks m.heap c.self.invariant c.args.a (omega arith) (omega arith)))

pub returns-then-self-a-3 : goal.returns-then-self-a-3
returns-then-self-a-3 c =
    let m = c.self.inside in
    rw (← c.self.view_is) (c.byte-then-self-a-3.ensures ∙ sym (byte_at-variables m.constants m.variables m.stacks m.heap c.self.invariant c.args.a (omega arith) (omega arith)))

pub returns-else-self-a-3 : goal.returns-else-self-a-3
returns-else-self-a-3 c =
    let m = c.self.inside in
    rw (← c.self.view_is) (c.byte-else-self-a-3.ensures ∙ sym (byte_at-constants m.constants m.variables m.stacks m.heap c.self.invariant c.args.a (omega arith)))
