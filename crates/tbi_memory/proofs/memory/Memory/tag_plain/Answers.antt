use Rattle.std.proofs.Common.{ℕ, ◌/◌, replicate, sym, ◌∙◌}
use Rattle.std.proofs.lemmas.List.{length-replicate}
use Rattle.tbi_memory.proofs.PartLemmas.{tagged-heap, tagged-stacks}
use Rattle.tbi_memory.proofs.memory.Memory.tag_plain.Goals as goal

pub returns-then-holds_granules : goal.returns-then-holds_granules
returns-then-holds_granules c =
    let m = c.self.inside in
    rw (← c.self.view_is)
    (tagged-heap m.constants m.variables m.stacks m.heap c.self.invariant (c.args.at / 16) (c.args.len / 16) (replicate (c.args.len / 16) c.args.tag) c.plain.new.self
    (sym c.holds_granules.ensures ∙ c.if-holds_granules.true) (length-replicate {A = ℕ} (c.args.len / 16) c.args.tag) c.plain.ensures.tags)

pub returns-then-holds_granules-2 : goal.returns-then-holds_granules-2
returns-then-holds_granules-2 c =
    let m = c.self.inside in
    rw (← c.self.view_is)
    (tagged-stacks m.constants m.variables m.stacks m.heap c.self.invariant (c.args.at / 16) (c.args.len / 16) (replicate (c.args.len / 16) c.args.tag) c.plain-then-holds_granules-2.new.self
    (sym c.holds_granules-else-holds_granules.ensures ∙ c.if-holds_granules-2.true) (length-replicate {A = ℕ} (c.args.len / 16) c.args.tag) c.plain-then-holds_granules-2.ensures.tags)
