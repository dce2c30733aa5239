use Rattle.ir_meaning.proofs.RunChanges.{step-next, step-last, run-spent, run-ended}
use Rattle.ir_meaning.proofs.laws.what_steps_do_to_births.Goals as goal

pub returns-clause-step : goal.returns-clause-step
returns-clause-step c = step-next

pub returns-clause-last_step : goal.returns-clause-last_step
returns-clause-last_step c = step-last

pub returns-clause-run : goal.returns-clause-run
returns-clause-run c = run-spent

pub returns-clause-run_that_ended : goal.returns-clause-run_that_ended
returns-clause-run_that_ended c = run-ended
