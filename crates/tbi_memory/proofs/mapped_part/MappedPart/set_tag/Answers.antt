use Rattle.std.proofs.Common.{ℕ, List, ◌∙◌, ap, arith}
use Rattle.tbi_memory.specs.MemoryParts.{tags_of}
use Rattle.tbi_memory.proofs.RangeLemmas.{set_in-one}
use Rattle.tbi_memory.proofs.mapped_part.MappedPart.set_tag.Goals as goal

pub returns-then-granule-first-clause-tags : goal.returns-then-granule-first-clause-tags
returns-then-granule-first-clause-tags c =
    ap (λ (ys : List ℕ). record (tags_of c.args.self.now) { bytes = ys }) c.plain.ensures.tags
    ∙ set_in-one (tags_of c.args.self.now) c.args.granule c.args.tag (omega arith) (omega arith)
