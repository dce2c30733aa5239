use Rattle.std.proofs.Common.{sym, ◌∙◌, ap, arith}
use Rattle.std.specs.Prelude.{Ok}
use Rattle.tbi_memory.specs.MemoryParts.{number_read}
use Rattle.tbi_memory.proofs.memory.Memory.read_across.Goals as goal

pub returns-then-until-a-clause-number : goal.returns-then-until-a-clause-number
returns-then-until-a-clause-number c =
    rw (← c.address-a.ensures.value) (sym (ap number_read (c.mapped_until-until.ensures.near c.args.n (omega arith))))

pub returns-clause-number : goal.returns-clause-number
returns-clause-number c =
    rw (← c.address-a.ensures.value) (ap Ok c.number_of.ensures.number ∙ sym (ap number_read (c.mapped_until-until.ensures.far c.args.n (omega arith))))
