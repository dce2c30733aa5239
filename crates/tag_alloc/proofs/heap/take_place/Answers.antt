use Rattle.std.proofs.Common.{sym, arith}
use Rattle.hw_base.specs.AddressMap.{rounded_size}
use Rattle.tag_alloc.proofs.HeapLemmas.{place_for-large, rounded-above, taken-large}
use Rattle.tag_alloc.proofs.heap.take_place.Goals as goal

pub returns-then-size-gt-MOST_BLOCK-clause-place : goal.returns-then-size-gt-MOST_BLOCK-clause-place
returns-then-size-gt-MOST_BLOCK-clause-place c =
    let h = c.args.holes.now in
    let above = rounded-above c.args.size in
    sym (place_for-large (rounded_size c.args.size) h.low h.high h.ranges c.are_apart.ensures (omega arith))

pub returns-then-size-gt-MOST_BLOCK-clause-ranges : goal.returns-then-size-gt-MOST_BLOCK-clause-ranges
returns-then-size-gt-MOST_BLOCK-clause-ranges c =
    let h = c.args.holes.now in
    let above = rounded-above c.args.size in
    taken-large (rounded_size c.args.size) h.low h.high h.ranges c.are_apart.ensures (omega arith)
