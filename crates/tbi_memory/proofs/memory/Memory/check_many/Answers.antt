use Rattle.std.proofs.Common.{◌/◌, ◌^◌, sym, ◌∙◌, ap, refl}
use Rattle.tbi_memory.specs.MemoryParts.{passed_unless}
use Rattle.tbi_memory.proofs.PartLemmas.{checked-heap, checked-stacks}
use Rattle.tbi_memory.proofs.memory.Memory.check_many.Goals as goal

pub returns-then-all_tagged : goal.returns-then-all_tagged
returns-then-all_tagged c =
    let m = c.self.inside in
    rw (← c.self.view_is)
    (sym (ap passed_unless
    (checked-heap m.constants m.variables m.stacks m.heap c.self.invariant c.args.v c.args.n (c.args.v / 2 ^ 56) c.address-a.result c.granules_touched-count.result
    c.address-a.ensures.value c.granules_touched-count.ensures.value (sym c.all_tagged.ensures ∙ c.if-all_tagged.true) refl)))

pub returns-then-all_tagged-2 : goal.returns-then-all_tagged-2
returns-then-all_tagged-2 c =
    let m = c.self.inside in
    rw (← c.self.view_is)
    (sym (ap passed_unless
    (checked-stacks m.constants m.variables m.stacks m.heap c.self.invariant c.args.v c.args.n (c.args.v / 2 ^ 56) c.address-a.result c.granules_touched-count.result
    c.address-a.ensures.value c.granules_touched-count.ensures.value (sym c.all_tagged-2.ensures ∙ c.if-all_tagged-2.true) refl)))
