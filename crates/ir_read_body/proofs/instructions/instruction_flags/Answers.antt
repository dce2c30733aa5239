use Rattle.std.proofs.Common.{sym, ◌∙◌}
use Rattle.ir_read_body.proofs.FlagLists.{flags_more, flag_takes}
use Rattle.ir_read_body.proofs.instructions.instruction_flags.Goals as goal

pub loop-reader-smaller : goal.loop-reader-smaller
loop-reader-smaller c = flag_takes _ _ _ c.in_ok-take.ensures

pub loop-reader-preserved : goal.loop-reader-preserved
loop-reader-preserved c = sym (flags_more _ _ _ _ (sym c.next_is.ensures ∙ c.loop-reader-test.true) c.in_ok-take.ensures) ∙ c.loop-reader.invariant
