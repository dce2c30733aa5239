use Rattle.std.proofs.Common.{sym, ◌∙◌}
use Rattle.ir_read_items.proofs.ItemLists.{tail_more, tail_takes}
use Rattle.ir_read_items.proofs.globals.global_tail.Goals as goal

pub loop-reader-smaller : goal.loop-reader-smaller
loop-reader-smaller c = tail_takes _ _ _ _ c.in_ok-comma_part.ensures

pub loop-reader-preserved : goal.loop-reader-preserved
loop-reader-preserved c = sym (tail_more _ _ _ _ (sym c.comma_is_next.ensures ∙ c.loop-reader-test.true) c.in_ok-comma_part.ensures) ∙ c.loop-reader.invariant
