use Rattle.std.proofs.Common.{ℕ, replicate, sym, ◌∙◌}
use Rattle.std.proofs.lemmas.List.{length-replicate}
use Rattle.tbi_memory.proofs.SpaceLemmas.{written-none}
use Rattle.tbi_memory.proofs.memory.Memory.fill.Goals as goal

pub returns-clause-ok : goal.returns-clause-ok
returns-clause-ok c =
    rw (c.put_all.ensures, c.address.ensures.value)
    (written-none c.args.self.now c.args.v c.args.n (replicate c.args.n c.args.b) (length-replicate {A = ℕ} c.args.n c.args.b) (sym c.refusal.ensures.fault ∙ c.in-None.is))
