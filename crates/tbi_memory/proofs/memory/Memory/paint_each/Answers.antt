use Rattle.std.proofs.Common.{◌≡◌, ◌%◌, [], ◌∷◌}
use Rattle.hw_shadow.specs.ObjectTags.{short_granule}
use Rattle.hw_shadow.proofs.ObjectTagLemmas.{short_granule-some, short_granule-empty}
use Rattle.tbi_memory.proofs.StepLemmas.{with_tags-short}
use Rattle.tbi_memory.proofs.memory.Memory.paint_each.Goals.{then-size-ne0-via-then-size-ne0, then-size-ne0-via-else-size-ne0+then-size-eq0}
use Rattle.tbi_memory.proofs.memory.Memory.paint_each.Goals as goal

pub returns-then-size-ne0 : goal.returns-then-size-ne0
returns-then-size-ne0 c =
    let short : short_granule c.args.size ≡ c.args.size % 16 ∷ [] =
    elim c.then-size-ne0.branch [
      | then-size-ne0-via-then-size-ne0 w ↦ short_granule-some c.args.size w.if-size-ne0.true
      | then-size-ne0-via-else-size-ne0+then-size-eq0 w ↦ short_granule-empty c.args.size w.if-size-eq0.true
    ] in
    with_tags-short c.args.self.now c.plain_each.new.self c.set_tag.new.self c.args.first c.args.size c.args.tag short c.plain_each.ensures c.set_tag.ensures
