use Rattle.std.proofs.Common.{◌≡◌, None, sym}
use Rattle.ir_check_flow.specs.Limits.{limit_fault}
use Rattle.ir_check_flow.proofs.CanBeRun.{accepted_can_be_run}
use Rattle.ir_check_flow.proofs.checked_module.check.Goals as goal

pub invariant_of-result : goal.invariant_of-result
invariant_of-result c =
    let limits : limit_fault c.args.m ≡ None = sym c.in-None.ensures in
    record {
      scopes = c.requires.scopes;
      types = c.requires.types;
      flow = c.in-Ok.ensures;
      limits = limits;
      runnable = accepted_can_be_run c.args.m c.requires.resolved c.requires.types c.in-Ok.ensures limits;
    }
