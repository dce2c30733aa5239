use Rattle.ir_check_flow.specs.Flow.{IsUndefinedUse}
use Rattle.ir_check_flow.specs.Phis.{IsBadPhi}
use Rattle.ir_check_flow.proofs.FirstOne.{first_of_both}
use Rattle.ir_check_flow.proofs.flow.function_flow.Goals as goal

pub returns : goal.returns
returns c =
    rw c.earlier.ensures
    (first_of_both (IsUndefinedUse c.args.f.now) (IsBadPhi c.args.f.now) c.in_ok-undefined.undefined c.in_ok-bad.bad c.in_ok-undefined.ensures c.in_ok-bad.ensures)
