use Rattle.hw_tags.proofs.RunLaws.{run_from-add, run_from-ended}
use Rattle.ir_meaning.specs.Runs.{step_under}
use Rattle.ir_meaning.specs.State.{nothing_happened}
use Rattle.ir_meaning.proofs.RunLaws.{source_run-ended}
use Rattle.ir_meaning.proofs.laws.runs_under_bounds.Goals as goal

pub returns-clause-ended : goal.returns-clause-ended
returns-clause-ended c = source_run-ended

pub returns-clause-ended_from : goal.returns-clause-ended_from
returns-clause-ended_from c program input turns n m w last reports ending e =
    run_from-ended (step_under program input) nothing_happened turns n m w last reports ending e

pub returns-clause-sum : goal.returns-clause-sum
returns-clause-sum c program input turns n m w = run_from-add (step_under program input) nothing_happened turns n m w
