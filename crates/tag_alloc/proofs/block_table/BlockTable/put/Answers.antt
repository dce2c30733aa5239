use Rattle.std.proofs.Common.{◌≡◌, ◌+◌, ◌-◌, ◌*◌, ◌/◌, None, Some, ap, ◌∙◌, arith}
use Rattle.std.proofs.lemmas.List.{length-set}
use Rattle.tag_alloc.specs.HeapBlocks.{with_block}
use Rattle.tag_alloc.specs.HeapTables.{BlocksState, blocks_of}
use Rattle.tag_alloc.proofs.TableLemmas.{AreAt-put, blocks_of-put, changed-state, found_at, unused-place}
use Rattle.tag_alloc.proofs.block_table.BlockTable.put.Goals as goal

pub invariant_of-self : goal.invariant_of-self
invariant_of-self c =
    let t = c.self.inside in
    let i = (c.args.block.at - t.low) / 16 in
    let low_ = ap (λ (s : BlocksState). s.low) c.self.view_is in
    let above = c.requires.above_low in
    let steps = c.requires.in_steps in
    let place : c.args.block.at ≡ t.low + 16 * i = omega (arith, low_, above, steps) in
    let same = length-set c.reach.new.entries.items i (Some c.args.block) in
    let most = c.reach.ensures.within in
    (AreAt-put c.args.block t.low i c.reach.new.entries.items (c.reach.ensures.places t.low c.self.invariant.0) place, omega (arith, same, most), c.reach.ensures.room)

pub returns : goal.returns
returns c =
    let t = c.self.inside in
    let i = (c.args.block.at - t.low) / 16 in
    let low_ = ap (λ (s : BlocksState). s.low) c.self.view_is in
    let above = c.requires.above_low in
    let steps = c.requires.in_steps in
    let place : c.args.block.at ≡ t.low + 16 * i = omega (arith, low_, above, steps) in
    let at_ = c.reach.ensures.places t.low c.self.invariant.0 in
    let none_ : found_at c.args.block.at (blocks_of c.reach.new.entries.items) ≡ None =
    ap (found_at c.args.block.at) (c.reach.ensures.blocks ∙ ap (λ (s : BlocksState). s.blocks) c.self.view_is) ∙ c.requires.unused in
    let reached = c.reach.ensures.reached in
    let unused = unused-place c.args.block.at t.low i c.reach.new.entries.items at_ place (omega arith) none_ in
    changed-state (with_block c.args.block) (blocks_of t.entries.items) _ t.low (t.low + 16 * t.granules) c.args.self.now c.self.view_is
    (blocks_of-put c.args.block t.low i c.reach.new.entries.items at_ place unused ∙ ap (with_block c.args.block) c.reach.ensures.blocks)
