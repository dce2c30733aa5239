use Rattle.std.proofs.Common.{ℕ, List, subst}
use Rattle.hw_driver.specs.LineView.{line_view}
use Rattle.hw_driver.specs.Decided.{decision_view}
use Rattle.hw_driver.specs.Answer.{JudgesText, seen}
use Rattle.hw_driver.proofs.Judged.{reads_seen}
use Rattle.hw_driver.proofs.judging.judge_file.Goals as goal

pub returns-in-Ok-judge_read-clause-judged : goal.returns-in-Ok-judge_read-clause-judged
returns-in-Ok-judge_read-clause-judged g c =
    let judged = subst (λ (text : List ℕ). JudgesText (line_view c.args.command.now) (seen c.in-Ok.read text) (decision_view c.in-Ok-judge_read.decision)) c.deref.ensures.value c.in-Ok-judge_read.ensures in
    record {
      read = seen c.in-Ok.read c.read.new.into.items;
      reads_as = reads_seen _ c.in-Ok.read c.read.new.into.items c.in-Ok.ensures.bytes;
      text = judged;
      once = c.in-Ok.ensures.reads;
      no_fault = c.in-Ok.ensures.failed;
    }
