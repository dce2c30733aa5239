use Rattle.std.proofs.Common.{ℕ, sym, ◌∙◌, ap, arith}
use Rattle.hw_base.specs.AddressMap.{granule_of}
use Rattle.tbi_memory.specs.MappedBytes.{byte_at}
use Rattle.tbi_memory.specs.MemoryParts.{passed_unless}
use Rattle.tbi_memory.proofs.StepLemmas.{check-one}
use Rattle.tbi_memory.proofs.memory.Memory.check.Goals as goal

pub returns-in-Some : goal.returns-in-Some
returns-in-Some c =
    let m = c.args.self.now in
    sym (ap passed_unless
    (check-one m c.args.v c.args.n c.in-Some.memory c.if-n-gt0.true (omega (arith, c.address-a.ensures.value, c.if-n-a.true))
    (ap (λ (b : ℕ). byte_at m.shadow (granule_of b)) (sym c.address-a.ensures.value) ∙ sym c.tag_of.ensures.tag ∙ c.in-Some.is) c.if-memory-v.true))
