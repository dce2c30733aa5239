use Rattle.std.proofs.Common.{sym, ◌∙◌}
use Rattle.ir_grammar.proofs.SkippedRuns.{any_more, any_takes}
use Rattle.ir_grammar.proofs.reader.Reader.+any.Goals as goal

pub any_run-loop-self-smaller : goal.any_run-loop-self-smaller
any_run-loop-self-smaller t c = any_takes _ _ _ _ c.in_ok-any_part.ensures

pub any_run-loop-self-preserved : goal.any_run-loop-self-preserved
any_run-loop-self-preserved t c =
    sym (any_more _ _ _ _ (sym c.starts_any.ensures ∙ c.loop-self-test.true) c.in_ok-any_part.ensures) ∙ c.loop-self.invariant
