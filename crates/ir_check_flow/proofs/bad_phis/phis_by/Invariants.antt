use Rattle.std.proofs.Common.{take}
use Rattle.ir_check_flow.specs.First.{IsFirstOf}
use Rattle.ir_check_flow.specs.Phis.{IsBadAmong}
use Rattle.ir_check_flow.proofs.bad_phis.phis_by.Given as goal

abbrev pub invariant-loop-b : goal.invariant-loop-b
invariant-loop-b l = IsFirstOf (IsBadAmong l.f (take l.b l.f.blocks)) l.first
