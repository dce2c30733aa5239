use Rattle.std.proofs.Common.{◌+◌, ◌/◌, sym, ◌∙◌, arith}
use Rattle.hw_shadow.specs.ObjectTags.{object_tags}
use Rattle.hw_shadow.proofs.ObjectTagLemmas.{length-object_tags}
use Rattle.tbi_memory.proofs.PartLemmas.{tagged-heap, tagged-stacks}
use Rattle.tbi_memory.proofs.StepLemmas.{rounded-count}
use Rattle.tbi_memory.proofs.memory.Memory.paint.Goals as goal

pub returns-then-holds_granules : goal.returns-then-holds_granules
returns-then-holds_granules c =
    let m = c.self.inside in
    rw (← c.self.view_is)
    (tagged-heap m.constants m.variables m.stacks m.heap c.self.invariant c.args.first ((c.max.result + 15) / 16) (object_tags c.args.size c.args.tag) c.paint.new.self
    (sym c.holds_granules.ensures ∙ c.if-holds_granules.true) (omega (arith, length-object_tags c.args.size c.args.tag, rounded-count c.args.size, c.max.ensures)) c.paint.ensures.tags)

pub returns-then-holds_granules-2 : goal.returns-then-holds_granules-2
returns-then-holds_granules-2 c =
    let m = c.self.inside in
    rw (← c.self.view_is)
    (tagged-stacks m.constants m.variables m.stacks m.heap c.self.invariant c.args.first ((c.max.result + 15) / 16) (object_tags c.args.size c.args.tag) c.paint-then-holds_granules-2.new.self
    (sym c.holds_granules-else-holds_granules.ensures ∙ c.if-holds_granules-2.true) (omega (arith, length-object_tags c.args.size c.args.tag, rounded-count c.args.size, c.max.ensures)) c.paint-then-holds_granules-2.ensures.tags)
