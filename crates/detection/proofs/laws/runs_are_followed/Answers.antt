use Rattle.detection.proofs.WorldsFollow.{world-step-follows, run-follows}
use Rattle.detection.proofs.laws.runs_are_followed.Goals as goal

pub returns-clause-steps : goal.returns-clause-steps
returns-clause-steps c setting turns t m is related = world-step-follows setting is t m related turns

pub returns-clause-runs : goal.returns-clause-runs
returns-clause-runs c setting turns bound t m is related = run-follows setting is turns bound t m related
