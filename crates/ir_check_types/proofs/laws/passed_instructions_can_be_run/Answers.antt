use Rattle.ir_check_types.proofs.PassedRules.{instructions_can_be_run}
use Rattle.ir_check_types.proofs.laws.passed_instructions_can_be_run.Goals as goal

pub returns : goal.returns
returns c = instructions_can_be_run
