use Rattle.std.proofs.Common.{◌∙◌, ap, sym, subst, arith}
use Rattle.hw_holes.specs.FreeRanges.{IsNotFree}
use Rattle.hw_tags.specs.Tag.{free_tag_of}
use Rattle.hw_tags.specs.Words.{coming}
use Rattle.tag_alloc.specs.HeapView.{HeapView, kept_of}
use Rattle.tag_alloc.proofs.TableLemmas.{found_at}
use Rattle.tag_alloc.proofs.HeapLemmas.{death-facts, death-not-free, death-size, died-state, died-tables, rounded-above}
use Rattle.tag_alloc.proofs.heap.Heap.end_block.Goals as goal

pub remove-requires-clause-above_low : goal.remove-requires-clause-above_low
remove-requires-clause-above_low c =
    let h = c.self.inside in
    let found = ap (λ (v : HeapView). found_at c.args.block.at v.state.living) c.self.view_is ∙ c.requires.living in
    let facts = death-facts h.table h.holes h.living_size c.args.block c.self.invariant.0 found in
    facts.above

pub remove-requires-clause-in_steps : goal.remove-requires-clause-in_steps
remove-requires-clause-in_steps c =
    let h = c.self.inside in
    let found = ap (λ (v : HeapView). found_at c.args.block.at v.state.living) c.self.view_is ∙ c.requires.living in
    let facts = death-facts h.table h.holes h.living_size c.args.block c.self.invariant.0 found in
    let steps = facts.steps in
    let above = facts.above in
    let low = c.self.invariant.0.low_in_steps in
    omega (arith, steps, above, low)

pub rounded-size-requires : goal.rounded-size-requires
rounded-size-requires c =
    let h = c.self.inside in
    let found = ap (λ (v : HeapView). found_at c.args.block.at v.state.living) c.self.view_is ∙ c.requires.living in
    let facts = death-facts h.table h.holes h.living_size c.args.block c.self.invariant.0 found in
    let below = facts.below in
    let size = rounded-above c.args.block.size in
    let high = c.self.invariant.0.high in
    omega (arith, below, size, high)

pub give-requires-clause-at_in_steps : goal.give-requires-clause-at_in_steps
give-requires-clause-at_in_steps c =
    let h = c.self.inside in
    let found = ap (λ (v : HeapView). found_at c.args.block.at v.state.living) c.self.view_is ∙ c.requires.living in
    let facts = death-facts h.table h.holes h.living_size c.args.block c.self.invariant.0 found in
    facts.steps

pub give-requires-clause-above_low : goal.give-requires-clause-above_low
give-requires-clause-above_low c =
    let h = c.self.inside in
    let found = ap (λ (v : HeapView). found_at c.args.block.at v.state.living) c.self.view_is ∙ c.requires.living in
    let facts = death-facts h.table h.holes h.living_size c.args.block c.self.invariant.0 found in
    let above = facts.above in
    let low = c.self.invariant.0.holes_low in
    omega (arith, above, low)

pub give-requires-clause-below_high : goal.give-requires-clause-below_high
give-requires-clause-below_high c =
    let h = c.self.inside in
    let found = ap (λ (v : HeapView). found_at c.args.block.at v.state.living) c.self.view_is ∙ c.requires.living in
    let facts = death-facts h.table h.holes h.living_size c.args.block c.self.invariant.0 found in
    let below = facts.below in
    let high = c.self.invariant.0.holes_high in
    let size = c.rounded-size.ensures.value in
    omega (arith, below, high, size)

pub give-requires-clause-not_free : goal.give-requires-clause-not_free
give-requires-clause-not_free c =
    let h = c.self.inside in
    let found = ap (λ (v : HeapView). found_at c.args.block.at v.state.living) c.self.view_is ∙ c.requires.living in
    subst (λ n. IsNotFree c.args.block.at n h.holes.ranges) (sym c.rounded-size.ensures.value)
    (death-not-free h.table h.holes h.living_size c.args.block c.self.invariant.0 found)

pub overflow_sub-self : goal.overflow_sub-self
overflow_sub-self c =
    let h = c.self.inside in
    let found = ap (λ (v : HeapView). found_at c.args.block.at v.state.living) c.self.view_is ∙ c.requires.living in
    let least = death-size h.table h.holes h.living_size c.args.block c.self.invariant.0 found in
    let size = c.rounded-size.ensures.value in
    omega (arith, least, size)

pub tag_plain-requires-clause-place : goal.tag_plain-requires-clause-place
tag_plain-requires-clause-place c =
    let h = c.self.inside in
    let found = ap (λ (v : HeapView). found_at c.args.block.at v.state.living) c.self.view_is ∙ c.requires.living in
    let facts = death-facts h.table h.holes h.living_size c.args.block c.self.invariant.0 found in
    facts.steps

pub tag_plain-requires-clause-end : goal.tag_plain-requires-clause-end
tag_plain-requires-clause-end c =
    let h = c.self.inside in
    let found = ap (λ (v : HeapView). found_at c.args.block.at v.state.living) c.self.view_is ∙ c.requires.living in
    let facts = death-facts h.table h.holes h.living_size c.args.block c.self.invariant.0 found in
    let below = facts.below in
    let high = c.self.invariant.0.high in
    let size = c.rounded-size.ensures.value in
    omega (arith, below, high, size)

pub invariant_of-self : goal.invariant_of-self
invariant_of-self c =
    let h = c.self.inside in
    let found = ap (λ (v : HeapView). found_at c.args.block.at v.state.living) c.self.view_is ∙ c.requires.living in (
      died-tables h.table c.remove.new.self h.holes c.give.new.self h.living_size c.rounded-size.result c.args.block c.self.invariant.0 found c.remove.ensures c.give.ensures.ranges c.give.ensures.low c.give.ensures.high c.rounded-size.ensures.value,
      c.remember.ensures.rings h.ring c.self.invariant.1,
      c.self.invariant.2,
    )

pub returns-clause-death : goal.returns-clause-death
returns-clause-death c =
    let h = c.self.inside in
    let found = ap (λ (v : HeapView). found_at c.args.block.at v.state.living) c.self.view_is ∙ c.requires.living in
    died-state h.table c.remove.new.self h.holes h.living_size c.rounded-size.result h.rings.items (kept_of c.remember.new.rings.items) h.ring c.args.self.now c.args.mem.now c.tag_plain.new.self
    (coming c.args.words.now 0) c.free_tag.result c.args.task c.args.died c.args.block
    c.self.view_is c.remove.ensures c.rounded-size.ensures.value (c.remember.ensures.kept h.ring c.self.invariant.1)
    (c.free_tag.ensures.value ∙ ap (λ w. free_tag_of w c.args.block.tag) c.next.ensures.first) c.tag_plain.ensures
