use Rattle.std.proofs.Common.{sym, ◌∙◌}
use Rattle.tbi_memory.proofs.PartLemmas.{number-heap, number-stacks, number-variables, number-constants}
use Rattle.tbi_memory.proofs.memory.Memory.read.Goals as goal

pub returns-then-holds-clause-number : goal.returns-then-holds-clause-number
returns-then-holds-clause-number c =
    let m = c.self.inside in
    rw (← c.self.view_is)
    (number-heap m.constants m.variables m.stacks m.heap c.self.invariant c.args.v c.address-a.result c.args.n c.get.result c.address-a.ensures.value (sym c.holds.ensures ∙ c.if-holds.true) c.get.ensures.number)

pub returns-then-holds-2-clause-number : goal.returns-then-holds-2-clause-number
returns-then-holds-2-clause-number c =
    let m = c.self.inside in
    rw (← c.self.view_is)
    (number-stacks m.constants m.variables m.stacks m.heap c.self.invariant c.args.v c.address-a.result c.args.n c.get-then-holds-2.result c.address-a.ensures.value (sym c.holds-else-holds.ensures ∙ c.if-holds-2.true) c.get-then-holds-2.ensures.number)

pub returns-then-holds-3-clause-number : goal.returns-then-holds-3-clause-number
returns-then-holds-3-clause-number c =
    let m = c.self.inside in
    rw (← c.self.view_is)
    (number-variables m.constants m.variables m.stacks m.heap c.self.invariant c.args.v c.address-a.result c.args.n c.get-then-holds-3.result c.address-a.ensures.value (sym c.holds-else-holds-2.ensures ∙ c.if-holds-3.true) c.get-then-holds-3.ensures.number)

pub returns-then-holds-4-clause-number : goal.returns-then-holds-4-clause-number
returns-then-holds-4-clause-number c =
    let m = c.self.inside in
    rw (← c.self.view_is)
    (number-constants m.constants m.variables m.stacks m.heap c.self.invariant c.args.v c.address-a.result c.args.n c.get-then-holds-4.result c.address-a.ensures.value (sym c.holds-else-holds-3.ensures ∙ c.if-holds-4.true) c.get-then-holds-4.ensures.number)
