use Rattle.std.proofs.Common.{◌∙◌, ap, arith}
use Rattle.hw_tags.specs.Tag.{heap_tag_of}
use Rattle.hw_tags.specs.Words.{coming}
use Rattle.hw_base.specs.AddressMap.{rounded_size}
use Rattle.tag_alloc.proofs.GapLemmas.{rounded-least}
use Rattle.tag_alloc.proofs.HeapLemmas.{apart-unused, birth-facts, born-full, born-state, born-tables, full-again, rounded-above}
use Rattle.tag_alloc.specs.HeapBlocks.{heap_full}
use Rattle.tag_alloc.specs.HeapView.{view_of}
use Rattle.tag_alloc.proofs.heap.Heap.malloc.Goals as goal

pub put-requires-clause-above_low : goal.put-requires-clause-above_low
put-requires-clause-above_low c =
    let h = c.self.inside in
    (birth-facts h.table h.holes h.living_size c.args.size c.in-Some.at c.take_place.result c.self.invariant.0 c.take_place.ensures.place c.in-Some.is).above

pub put-requires-clause-below_high : goal.put-requires-clause-below_high
put-requires-clause-below_high c =
    let h = c.self.inside in
    let below = (birth-facts h.table h.holes h.living_size c.args.size c.in-Some.at c.take_place.result c.self.invariant.0 c.take_place.ensures.place c.in-Some.is).below in
    let least = rounded-least c.args.size in
    omega (arith, below, least)

pub put-requires-clause-in_steps : goal.put-requires-clause-in_steps
put-requires-clause-in_steps c =
    let h = c.self.inside in
    let steps = (birth-facts h.table h.holes h.living_size c.args.size c.in-Some.at c.take_place.result c.self.invariant.0 c.take_place.ensures.place c.in-Some.is).steps in
    let above = (birth-facts h.table h.holes h.living_size c.args.size c.in-Some.at c.take_place.result c.self.invariant.0 c.take_place.ensures.place c.in-Some.is).above in
    let low = c.self.invariant.0.low_in_steps in
    omega (arith, steps, above, low)

pub put-requires-clause-unused : goal.put-requires-clause-unused
put-requires-clause-unused c =
    let h = c.self.inside in
    apart-unused c.in-Some.at (rounded_size c.args.size) h.table.blocks (rounded-least c.args.size)
    (birth-facts h.table h.holes h.living_size c.args.size c.in-Some.at c.take_place.result c.self.invariant.0 c.take_place.ensures.place c.in-Some.is).apart

pub fresh_object-requires-clause-place : goal.fresh_object-requires-clause-place
fresh_object-requires-clause-place c =
    let h = c.self.inside in
    (birth-facts h.table h.holes h.living_size c.args.size c.in-Some.at c.take_place.result c.self.invariant.0 c.take_place.ensures.place c.in-Some.is).steps

pub fresh_object-requires-clause-end : goal.fresh_object-requires-clause-end
fresh_object-requires-clause-end c =
    let h = c.self.inside in
    let below = (birth-facts h.table h.holes h.living_size c.args.size c.in-Some.at c.take_place.result c.self.invariant.0 c.take_place.ensures.place c.in-Some.is).below in
    let above = rounded-above c.args.size in
    let high = c.self.invariant.0.high in
    omega (arith, below, above, high)

pub number_of-requires : goal.number_of-requires
number_of-requires c =
    let h = c.self.inside in
    let below = (birth-facts h.table h.holes h.living_size c.args.size c.in-Some.at c.take_place.result c.self.invariant.0 c.take_place.ensures.place c.in-Some.is).below in
    let least = rounded-least c.args.size in
    let high = c.self.invariant.0.high in
    omega (arith, below, least, high)

pub invariant_of-self-in-Some : goal.invariant_of-self-in-Some
invariant_of-self-in-Some c =
    let h = c.self.inside in (
      born-tables h.table c.put.new.self h.holes c.take_place.new.holes h.living_size c.rounded.result
          (record { at = c.in-Some.at; size = c.args.size; tag = c.heap_tag.result; birth = c.args.birth; born = c.args.born })
          c.take_place.result c.self.invariant.0 c.take_place.ensures.place c.in-Some.is c.put.ensures c.take_place.ensures.ranges c.take_place.ensures.low c.take_place.ensures.high c.rounded.ensures.value,
      c.self.invariant.1,
      c.self.invariant.2,
    )

pub returns-in-None-clause-full : goal.returns-in-None-clause-full
returns-in-None-clause-full c full same word =
    let h = c.self.inside in
    born-full h.table h.holes h.living_size c.args.size h.rings.items h.ring c.take_place.result c.args.self.now c.args.mem.now word c.args.birth c.args.born
    c.self.invariant.0 c.self.view_is c.take_place.ensures.place c.in-None.is
    ∙ full-again (heap_full (view_of h.table h.holes h.living_size h.rings.items h.ring).state c.args.size) full same

pub returns-in-Some-clause-ok : goal.returns-in-Some-clause-ok
returns-in-Some-clause-ok c =
    let h = c.self.inside in
    born-state h.table c.put.new.self h.holes h.living_size c.rounded.result h.rings.items h.ring c.take_place.result c.args.self.now c.args.mem.now c.fresh_object.new.self
    (coming c.args.words.now 0) c.number_of.result
    (record { at = c.in-Some.at; size = c.args.size; tag = c.heap_tag.result; birth = c.args.birth; born = c.args.born })
    c.self.invariant.0 c.self.view_is c.take_place.ensures.place c.in-Some.is (c.heap_tag.ensures.value ∙ ap heap_tag_of c.next.ensures.first) c.put.ensures c.rounded.ensures.value
    c.fresh_object.ensures c.number_of.ensures
