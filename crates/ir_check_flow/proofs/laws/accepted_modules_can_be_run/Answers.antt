use Rattle.ir_check_flow.proofs.CanBeRun.{accepted_can_be_run}
use Rattle.ir_check_flow.proofs.laws.accepted_modules_can_be_run.Goals as goal

pub returns : goal.returns
returns c = accepted_can_be_run
