use Rattle.ir_machine.proofs.RunLaws.{machine_run-sum, machine_run-ended}
use Rattle.ir_machine.proofs.laws.runs_go_on.Goals as goal

pub returns-clause-sum : goal.returns-clause-sum
returns-clause-sum c = machine_run-sum

pub returns-clause-ended : goal.returns-clause-ended
returns-clause-ended c = machine_run-ended
