use Rattle.std.proofs.Common.{◌≡◌, ℕ, List, refl, sym, ◌∙◌, ap, Some, arith}
use Rattle.std.specs.Prelude.{Ok, Err}
use Rattle.tbi_memory.specs.declared.mem_fault.MemFault.{MemFault}
use Rattle.tbi_memory.specs.declared.mem_fault.MemFault.TheVariants.{Unmapped}
use Rattle.tbi_memory.specs.AddressSpace.{AddressSpace, read, write_fault, with_bytes}
use Rattle.tbi_memory.specs.MappedBytes.{read_bytes}
use Rattle.tbi_memory.specs.MemoryParts.{bytes_or_zeros}
use Rattle.tbi_memory.proofs.MoveLemmas.{length-bytes_or_zeros, moved-unread, moved-refused, moved-ok}
use Rattle.tbi_memory.proofs.memory.Memory.move_bytes.Goals as goal

pub returns-then-until-source-clause-err : goal.returns-then-until-source-clause-err
returns-then-until-source-clause-err c =
    let m = c.args.self.now in
    let until = c.mapped_until-until.result in
    let unread : read m c.args.from c.args.n ≡ Err (Unmapped until) =
    ap (λ (a : ℕ). read_bytes m.bytes a c.args.n) (sym c.address-source.ensures.value) ∙ c.mapped_until-until.ensures.near c.args.n (omega arith) in
    λ (fault : MemFault) e.
    let same : Unmapped until ≡ fault = cc in
    (moved-unread m c.args.to c.args.from c.args.n fault (unread ∙ ap Err same), refl)

pub returns-in-Some-clause-err : goal.returns-in-Some-clause-err
returns-in-Some-clause-err c =
    let m = c.args.self.now in
    let bytes : List ℕ = bytes_or_zeros m.bytes c.address-source.result c.args.n in
    let seen : read m c.args.from c.args.n ≡ Ok bytes =
    ap (λ (a : ℕ). read_bytes m.bytes a c.args.n) (sym c.address-source.ensures.value) ∙ c.mapped_until-until.ensures.far c.args.n (omega arith) in
    λ (fault : MemFault) e.
    let same : c.in-Some.fault ≡ fault = cc in
    let refused : write_fault m c.args.to c.args.n ≡ Some fault = sym c.refusal.ensures.fault ∙ c.in-Some.is ∙ ap Some same in
    (moved-refused m c.args.to c.args.from c.args.n bytes fault seen (length-bytes_or_zeros m.bytes c.address-source.result c.args.n) refused, refl)

pub returns-clause-ok : goal.returns-clause-ok
returns-clause-ok c =
    let m = c.args.self.now in
    let bytes : List ℕ = bytes_or_zeros m.bytes c.address-source.result c.args.n in
    let seen : read m c.args.from c.args.n ≡ Ok bytes =
    ap (λ (a : ℕ). read_bytes m.bytes a c.args.n) (sym c.address-source.ensures.value) ∙ c.mapped_until-until.ensures.far c.args.n (omega arith) in
    moved-ok m c.args.to c.args.from c.args.n bytes seen (length-bytes_or_zeros m.bytes c.address-source.result c.args.n) (sym c.refusal.ensures.fault ∙ c.in-None.is)
    ∙ ap (λ (a : ℕ). Ok (with_bytes m a bytes)) (sym c.address.ensures.value)
    ∙ ap (λ (s : AddressSpace). Ok s) (sym c.copy_run.ensures)
