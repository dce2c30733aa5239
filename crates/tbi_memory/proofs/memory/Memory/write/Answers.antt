use Rattle.std.proofs.Common.{sym, ◌∙◌}
use Rattle.hw_base.specs.Bytes.{le_bytes}
use Rattle.hw_base.proofs.ByteLaws.{length-le_bytes}
use Rattle.tbi_memory.proofs.PartLemmas.{written-heap, written-stacks, written-variables}
use Rattle.tbi_memory.proofs.memory.Memory.write.Goals as goal

pub returns-then-holds-clause-ok : goal.returns-then-holds-clause-ok
returns-then-holds-clause-ok c =
    let m = c.self.inside in
    rw (← c.self.view_is)
    (written-heap m.constants m.variables m.stacks m.heap c.self.invariant c.args.v c.address-a.result c.args.n (le_bytes c.args.n c.args.x) c.put.new.self c.address-a.ensures.value (sym c.holds.ensures ∙ c.if-holds.true) (length-le_bytes c.args.n c.args.x) c.put.ensures.bytes)

pub returns-then-holds-2-clause-ok : goal.returns-then-holds-2-clause-ok
returns-then-holds-2-clause-ok c =
    let m = c.self.inside in
    rw (← c.self.view_is)
    (written-stacks m.constants m.variables m.stacks m.heap c.self.invariant c.args.v c.address-a.result c.args.n (le_bytes c.args.n c.args.x) c.put-then-holds-2.new.self c.address-a.ensures.value (sym c.holds-else-holds.ensures ∙ c.if-holds-2.true) (length-le_bytes c.args.n c.args.x) c.put-then-holds-2.ensures.bytes)

pub returns-then-holds-3-clause-ok : goal.returns-then-holds-3-clause-ok
returns-then-holds-3-clause-ok c =
    let m = c.self.inside in
    rw (← c.self.view_is)
    (written-variables m.constants m.variables m.stacks m.heap c.self.invariant c.args.v c.address-a.result c.args.n (le_bytes c.args.n c.args.x) c.put-then-holds-3.new.self c.address-a.ensures.value (sym c.holds-else-holds-2.ensures ∙ c.if-holds-3.true) (length-le_bytes c.args.n c.args.x) c.put-then-holds-3.ensures.bytes)
