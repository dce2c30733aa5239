use Rattle.std.proofs.Common.{sym, ◌∙◌}
use Rattle.ir_read_items.proofs.DefineLists.{parts_more, parts_take}
use Rattle.ir_read_items.proofs.defines.define_tail.Goals as goal

pub loop-reader-smaller : goal.loop-reader-smaller
loop-reader-smaller c = parts_take _ _ _ _ c.in_ok-define_part.ensures

pub loop-reader-preserved : goal.loop-reader-preserved
loop-reader-preserved c = sym (parts_more _ _ _ _ (sym c.starts_part.ensures ∙ c.loop-reader-test.true) c.in_ok-define_part.ensures) ∙ c.loop-reader.invariant
