use Rattle.std.proofs.Common.{subst}
use Rattle.ir_machine.specs.Runs.{machine_run}
use Rattle.detection.proofs.StartFollows.{whole-run-follows}
use Rattle.detection.proofs.StartRelated.{start-related}
use Rattle.detection.specs.FollowingRuns.{FollowsRun}
use Rattle.detection.proofs.laws.stories_of_runs_are_laid_out.Goals as goal

pub returns : goal.returns
returns c setting turns bound t reports is h =
    let (m, own, related) = subst (λ o. FollowsRun setting o (machine_run setting turns bound)) h (whole-run-follows setting is (start-related setting is) turns bound) in
    (related.shared.laid, related.shared.told)
