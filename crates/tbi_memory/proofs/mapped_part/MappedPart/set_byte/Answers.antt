use Rattle.std.proofs.Common.{ℕ, List, ◌∙◌, ap, arith}
use Rattle.tbi_memory.specs.MemoryParts.{bytes_of}
use Rattle.tbi_memory.proofs.RangeLemmas.{set_in-one}
use Rattle.tbi_memory.proofs.mapped_part.MappedPart.set_byte.Goals as goal

pub returns-then-a-self-clause-bytes : goal.returns-then-a-self-clause-bytes
returns-then-a-self-clause-bytes c =
    ap (λ (ys : List ℕ). record (bytes_of c.args.self.now) { bytes = ys }) c.fill.ensures.bytes
    ∙ set_in-one (bytes_of c.args.self.now) c.args.a c.args.byte (omega arith) (omega arith)
