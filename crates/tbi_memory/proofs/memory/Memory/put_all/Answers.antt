use Rattle.std.proofs.Common.{ℕ, replicate, sym, ◌∙◌}
use Rattle.std.proofs.lemmas.List.{length-replicate}
use Rattle.tbi_memory.proofs.PartLemmas.{placed-heap, placed-stacks}
use Rattle.tbi_memory.proofs.memory.Memory.put_all.Goals as goal

pub returns-then-holds : goal.returns-then-holds
returns-then-holds c =
    let m = c.self.inside in
    rw (← c.self.view_is)
    (placed-heap m.constants m.variables m.stacks m.heap c.self.invariant c.args.a c.args.n (replicate c.args.n c.args.b) c.fill.new.self
    (sym c.holds.ensures ∙ c.if-holds.true) (length-replicate {A = ℕ} c.args.n c.args.b) c.fill.ensures.bytes)

pub returns-then-holds-2 : goal.returns-then-holds-2
returns-then-holds-2 c =
    let m = c.self.inside in
    rw (← c.self.view_is)
    (placed-stacks m.constants m.variables m.stacks m.heap c.self.invariant c.args.a c.args.n (replicate c.args.n c.args.b) c.fill-then-holds-2.new.self
    (sym c.holds-else-holds.ensures ∙ c.if-holds-2.true) (length-replicate {A = ℕ} c.args.n c.args.b) c.fill-then-holds-2.ensures.bytes)
