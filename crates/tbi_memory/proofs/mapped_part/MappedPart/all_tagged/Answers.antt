use Rattle.std.proofs.Common.{sym, ◌∙◌}
use Rattle.tbi_memory.specs.MemoryParts.{tags_of}
use Rattle.tbi_memory.proofs.StepLemmas.{all_tagged-in, all_tagged-out}
use Rattle.tbi_memory.proofs.mapped_part.MappedPart.all_tagged.Goals as goal

pub returns-then-holds_granules : goal.returns-then-holds_granules
returns-then-holds_granules c =
    all_tagged-in (tags_of c.args.self.now) c.args.first c.args.count c.args.tag c.all_equal.result (sym c.holds_granules.ensures ∙ c.if-holds_granules.true) c.all_equal.ensures

pub returns-else-holds_granules : goal.returns-else-holds_granules
returns-else-holds_granules c = all_tagged-out (tags_of c.args.self.now) c.args.first c.args.count c.args.tag (sym c.holds_granules.ensures ∙ c.if-holds_granules.false)
