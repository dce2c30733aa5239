use Rattle.std.proofs.Common.{sym, ◌∙◌}
use Rattle.ir_read_items.proofs.ItemLists.{attachments_more, attachments_take}
use Rattle.ir_read_items.proofs.declares.attachments.Goals as goal

pub loop-reader-smaller : goal.loop-reader-smaller
loop-reader-smaller c = attachments_take _ _ _ _ c.in_ok-attachment.ensures

pub loop-reader-preserved : goal.loop-reader-preserved
loop-reader-preserved c = sym (attachments_more _ _ _ _ (sym c.next_among.ensures ∙ c.loop-reader-test.true) c.in_ok-attachment.ensures) ∙ c.loop-reader.invariant
