use Rattle.std.proofs.Common.{sym, ◌∙◌}
use Rattle.ir_grammar.proofs.ConstantLists.{flags_more, flag_takes}
use Rattle.ir_grammar.proofs.reader.Reader.flags.Goals as goal

pub loop-self-smaller : goal.loop-self-smaller
loop-self-smaller c = flag_takes _ _ _ _ c.in_ok-flag.ensures

pub loop-self-preserved : goal.loop-self-preserved
loop-self-preserved c = sym (flags_more _ _ _ _ (sym c.next_among.ensures ∙ c.loop-self-test.true) c.in_ok-flag.ensures) ∙ c.loop-self.invariant
