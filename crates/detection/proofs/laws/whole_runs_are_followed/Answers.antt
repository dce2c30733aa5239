use Rattle.detection.proofs.StartFollows.{start-follows, whole-run-follows}
use Rattle.detection.proofs.StartRelated.{start-related}
use Rattle.detection.proofs.laws.whole_runs_are_followed.Goals as goal

pub returns-clause-shared : goal.returns-clause-shared
returns-clause-shared c setting is = start-related setting is

pub returns-clause-starts : goal.returns-clause-starts
returns-clause-starts c setting is = start-follows setting is (start-related setting is)

pub returns-clause-runs : goal.returns-clause-runs
returns-clause-runs c setting turns bound is = whole-run-follows setting is (start-related setting is) turns bound
