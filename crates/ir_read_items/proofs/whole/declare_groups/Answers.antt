use Rattle.std.proofs.Common.{sym, ◌∙◌}
use Rattle.ir_read_items.proofs.ItemLists.{groups_more, groups_take}
use Rattle.ir_read_items.proofs.whole.declare_groups.Goals as goal

pub loop-reader-smaller : goal.loop-reader-smaller
loop-reader-smaller c = groups_take _ _ _ _ c.in_ok-declare_group.ensures

pub loop-reader-preserved : goal.loop-reader-preserved
loop-reader-preserved c = sym (groups_more _ _ _ _ (sym c.next_is.ensures ∙ c.loop-reader-test.true) c.in_ok-declare_group.ensures) ∙ c.loop-reader.invariant
