use Rattle.std.proofs.lemmas.Result.{IfOk-weaker}
use Rattle.ir_read_top.proofs.DeclaredFunctions.{known_module}
use Rattle.hw_driver.proofs.Judged.{JudgesText-module}
use Rattle.hw_driver.proofs.judging.judge_text.Goals as goal

pub judge_checked-requires : goal.judge_checked-requires
judge_checked-requires c = known_module c.args.text.now c.in-Ok.checked c.in-Ok.ensures.read

pub returns-in-Ok : goal.returns-in-Ok
returns-in-Ok c =
    IfOk-weaker c.judge_checked.result _ _ (λ d judged. JudgesText-module _ c.args.text.now c.in-Ok.checked _ c.in-Ok.ensures judged) c.judge_checked.ensures
