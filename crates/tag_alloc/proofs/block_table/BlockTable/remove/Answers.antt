use Rattle.std.proofs.Common.{◌+◌, ◌-◌, ◌*◌, ◌/◌, None, sym, ◌∙◌, ap, arith}
use Rattle.tag_alloc.specs.HeapBlocks.{without_block}
use Rattle.tag_alloc.specs.HeapTables.{BlocksState, blocks_of}
use Rattle.tag_alloc.proofs.TableLemmas.{AreAt-remove, blocks_of-remove, changed-state, without-past_entries}
use Rattle.std.proofs.lemmas.List.{length-set}
use Rattle.tag_alloc.proofs.block_table.BlockTable.remove.Goals as goal

pub invariant_of-self : goal.invariant_of-self
invariant_of-self c =
    let t = c.self.inside in
    let same = length-set t.entries.items ((c.args.address - t.low) / 16) None in
    let most = c.self.invariant.1 in
    (AreAt-remove t.low ((c.args.address - t.low) / 16) t.entries.items c.self.invariant.0, omega (arith, same, most), c.self.invariant.2)

pub returns-then-place-len : goal.returns-then-place-len
returns-then-place-len c =
    let t = c.self.inside in
    let low_ = ap (λ (s : BlocksState). s.low) c.self.view_is in
    let above = c.requires.above_low in
    let steps = c.requires.in_steps in
    changed-state (without_block c.args.address) (blocks_of t.entries.items) _ t.low (t.low + 16 * t.granules) c.args.self.now c.self.view_is
    (blocks_of-remove c.args.address t.low ((c.args.address - t.low) / 16) t.entries.items c.self.invariant.0 (omega (arith, low_, above, steps)))

pub returns-else-place-len : goal.returns-else-place-len
returns-else-place-len c =
    let t = c.self.inside in
    let low_ = ap (λ (s : BlocksState). s.low) c.self.view_is in
    let above = c.requires.above_low in
    let steps = c.requires.in_steps in
    let past = c.if-place-len.false in
    sym c.self.view_is
    ∙ changed-state (without_block c.args.address) (blocks_of t.entries.items) (blocks_of t.entries.items) t.low (t.low + 16 * t.granules) c.args.self.now c.self.view_is
    (without-past_entries c.args.address t.low ((c.args.address - t.low) / 16) t.entries.items c.self.invariant.0 (omega (arith, low_, above, steps)) (omega arith))
