use Rattle.std.proofs.Common.{refl}
use Rattle.ir_machine.specs.Shown.{shown_run}
use Rattle.ir_machine.proofs.examples.a_use_after_return_is_reported.Goals as goal

pub returns-clause-reported : goal.returns-clause-reported
unfolding shown_run
returns-clause-reported c = refl

pub returns-clause-missed : goal.returns-clause-missed
unfolding shown_run
returns-clause-missed c = refl
