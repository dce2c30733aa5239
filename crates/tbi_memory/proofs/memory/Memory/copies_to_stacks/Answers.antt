use Rattle.std.proofs.Common.{◌≡◌, true, sym, ◌∙◌}
use Rattle.tbi_memory.proofs.MoveLemmas.{copied-stacks, run-heap, run-stacks, run-variables, run-constants}
use Rattle.tbi_memory.proofs.memory.Memory.copies_to_stacks.Goals as goal

pub returns-then-holds-clause-copied : goal.returns-then-holds-clause-copied
returns-then-holds-clause-copied c =
    let m = c.self.inside in
    rw (← c.self.view_is) (λ (_copied : true ≡ true).
    copied-stacks m.constants m.variables m.stacks m.heap c.self.invariant c.args.to c.args.from c.args.n _ c.copy.new.self
    (sym c.holds.ensures ∙ c.if-not-holds.false)
    (run-stacks m.constants m.variables m.stacks m.heap c.self.invariant c.args.from c.args.n (sym c.holds-2.ensures ∙ c.if-holds.true)) c.copy.ensures.bytes)

pub returns-then-holds-2-clause-copied : goal.returns-then-holds-2-clause-copied
returns-then-holds-2-clause-copied c =
    let m = c.self.inside in
    rw (← c.self.view_is) (λ (_copied : true ≡ true).
    copied-stacks m.constants m.variables m.stacks m.heap c.self.invariant c.args.to c.args.from c.args.n _ c.copy_from.new.self
    (sym c.holds.ensures ∙ c.if-not-holds.false)
    (run-heap m.constants m.variables m.stacks m.heap c.self.invariant c.args.from c.args.n (sym c.holds-else-holds.ensures ∙ c.if-holds-2.true)) c.copy_from.ensures.bytes)

pub returns-then-holds-3-clause-copied : goal.returns-then-holds-3-clause-copied
returns-then-holds-3-clause-copied c =
    let m = c.self.inside in
    rw (← c.self.view_is) (λ (_copied : true ≡ true).
    copied-stacks m.constants m.variables m.stacks m.heap c.self.invariant c.args.to c.args.from c.args.n _ c.copy_from-then-holds-3.new.self
    (sym c.holds.ensures ∙ c.if-not-holds.false)
    (run-variables m.constants m.variables m.stacks m.heap c.self.invariant c.args.from c.args.n (sym c.holds-else-holds-2.ensures ∙ c.if-holds-3.true)) c.copy_from-then-holds-3.ensures.bytes)

pub returns-then-holds-4-clause-copied : goal.returns-then-holds-4-clause-copied
returns-then-holds-4-clause-copied c =
    let m = c.self.inside in
    rw (← c.self.view_is) (λ (_copied : true ≡ true).
    copied-stacks m.constants m.variables m.stacks m.heap c.self.invariant c.args.to c.args.from c.args.n _ c.copy_from-then-holds-4.new.self
    (sym c.holds.ensures ∙ c.if-not-holds.false)
    (run-constants m.constants m.variables m.stacks m.heap c.self.invariant c.args.from c.args.n (sym c.holds-else-holds-3.ensures ∙ c.if-holds-4.true)) c.copy_from-then-holds-4.ensures.bytes)
