use Rattle.std.proofs.Common.{refl}
use Rattle.ir_machine.specs.Shown.{shown_run}
use Rattle.ir_machine.proofs.examples.runs_exit_and_trap.Goals as goal

pub returns-clause-exit : goal.returns-clause-exit
unfolding shown_run
returns-clause-exit c = refl

pub returns-clause-bound : goal.returns-clause-bound
unfolding shown_run
returns-clause-bound c = refl

pub returns-clause-unreachable : goal.returns-clause-unreachable
unfolding shown_run
returns-clause-unreachable c = refl

pub returns-clause-division : goal.returns-clause-division
unfolding shown_run
returns-clause-division c = refl
