use Rattle.std.proofs.Common.{sym, ◌∙◌}
use Rattle.hw_base.specs.Bytes.{le_bytes}
use Rattle.hw_base.proofs.ByteLaws.{length-le_bytes}
use Rattle.tbi_memory.proofs.SpaceLemmas.{written-none}
use Rattle.tbi_memory.proofs.memory.Memory.write_across.Goals as goal

pub returns-clause-ok : goal.returns-clause-ok
returns-clause-ok c =
    rw (c.put_each.ensures, c.address.ensures.value)
    (written-none c.args.self.now c.args.v c.args.n (le_bytes c.args.n c.args.x) (length-le_bytes c.args.n c.args.x) (sym c.refusal.ensures.fault ∙ c.in-None.is))
