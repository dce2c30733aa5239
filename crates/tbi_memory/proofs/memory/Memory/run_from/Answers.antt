use Rattle.std.proofs.Common.{◌≡◌, ℕ, refl, sym, ◌∙◌}
use Rattle.tbi_memory.specs.MappedBytes.{read_bytes}
use Rattle.tbi_memory.proofs.ReadLemmas.{run-heap, run-stacks, run-variables, run-constants, unmapped-outside}
use Rattle.tbi_memory.proofs.memory.Memory.run_from.Goals as goal

pub returns-then-holds-clause-bytes : goal.returns-then-holds-clause-bytes
returns-then-holds-clause-bytes c =
    let m = c.self.inside in
    rw (← c.self.view_is)
    (run-heap m.constants m.variables m.stacks m.heap c.self.invariant c.args.v c.address-a.result c.run_from.result.now c.address-a.ensures.value (sym c.holds.ensures ∙ c.if-holds.true) c.run_from.ensures.end c.run_from.ensures.bytes)

pub returns-then-holds-2-clause-bytes : goal.returns-then-holds-2-clause-bytes
returns-then-holds-2-clause-bytes c =
    let m = c.self.inside in
    rw (← c.self.view_is)
    (run-stacks m.constants m.variables m.stacks m.heap c.self.invariant c.args.v c.address-a.result c.run_from-then-holds-2.result.now c.address-a.ensures.value (sym c.holds-else-holds.ensures ∙ c.if-holds-2.true) c.run_from-then-holds-2.ensures.end c.run_from-then-holds-2.ensures.bytes)

pub returns-then-holds-3-clause-bytes : goal.returns-then-holds-3-clause-bytes
returns-then-holds-3-clause-bytes c =
    let m = c.self.inside in
    rw (← c.self.view_is)
    (run-variables m.constants m.variables m.stacks m.heap c.self.invariant c.args.v c.address-a.result c.run_from-then-holds-3.result.now c.address-a.ensures.value (sym c.holds-else-holds-2.ensures ∙ c.if-holds-3.true) c.run_from-then-holds-3.ensures.end c.run_from-then-holds-3.ensures.bytes)

pub returns-then-holds-4-clause-bytes : goal.returns-then-holds-4-clause-bytes
returns-then-holds-4-clause-bytes c =
    let m = c.self.inside in
    rw (← c.self.view_is)
    (run-constants m.constants m.variables m.stacks m.heap c.self.invariant c.args.v c.address-a.result c.run_from-then-holds-4.result.now c.address-a.ensures.value (sym c.holds-else-holds-3.ensures ∙ c.if-holds-4.true) c.run_from-then-holds-4.ensures.end c.run_from-then-holds-4.ensures.bytes)

pub returns-else-holds-4-clause-bytes : goal.returns-else-holds-4-clause-bytes
unfolding read_bytes
returns-else-holds-4-clause-bytes c = refl

pub returns-else-holds-4-clause-none : goal.returns-else-holds-4-clause-none
returns-else-holds-4-clause-none c =
    let m = c.self.inside in
    rw (← c.self.view_is)
    (λ (none : ◌≡◌ {A = ℕ} 0 0).
    rw (← c.address-a.ensures.value)
    (unmapped-outside m.constants m.variables m.stacks m.heap c.address-a.result (sym c.holds.ensures ∙ c.if-holds.false) (sym c.holds-else-holds.ensures ∙ c.if-holds-2.false) (sym c.holds-else-holds-2.ensures ∙ c.if-holds-3.false) (sym c.holds-else-holds-3.ensures ∙ c.if-holds-4.false)))
