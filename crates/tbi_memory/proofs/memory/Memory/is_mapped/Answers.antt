use Rattle.std.proofs.Common.{◌-◌}
use Rattle.tbi_memory.specs.MappedBytes.{read_bytes}
use Rattle.tbi_memory.specs.MemoryParts.{bytes_or_zeros}
use Rattle.tbi_memory.proofs.RunLemmas.{is_ok-by}
use Rattle.tbi_memory.proofs.memory.Memory.is_mapped.Goals as goal

pub returns : goal.returns
returns c =
    let a = c.address-a.result in
    let m = c.args.self.now in
    rw (← c.address-a.ensures.value)
    (is_ok-by (read_bytes m.bytes a c.args.n) c.args.n (c.mapped_until.result - a) c.mapped_until.result (bytes_or_zeros m.bytes a c.args.n)
    (c.mapped_until.ensures.far c.args.n) (c.mapped_until.ensures.near c.args.n))
