use Rattle.std.proofs.Common.{sym, ◌∙◌}
use Rattle.ir_read_items.proofs.ItemLists.{items_more, items_take}
use Rattle.ir_read_items.proofs.whole.free_items.Goals as goal

pub loop-reader-smaller : goal.loop-reader-smaller
loop-reader-smaller c = items_take _ _ _ _ c.in_ok-item.ensures

pub loop-reader-preserved : goal.loop-reader-preserved
loop-reader-preserved c = sym (items_more _ _ _ _ (sym c.starts_item.ensures ∙ c.loop-reader-test.true) c.in_ok-item.ensures) ∙ c.loop-reader.invariant
