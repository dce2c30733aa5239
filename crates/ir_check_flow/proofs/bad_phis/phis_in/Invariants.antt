use Rattle.std.proofs.Common.{take}
use Rattle.std.specs.List.{Contains}
use Rattle.ir_check_flow.specs.First.{IsFirstOf}
use Rattle.ir_check_flow.specs.Phis.{IsBadIn}
use Rattle.ir_check_flow.proofs.bad_phis.phis_in.Given as goal

abbrev pub invariant-loop-i : goal.invariant-loop-i
invariant-loop-i l = IsFirstOf (IsBadIn (Contains l.predecessors) l.phis (take l.i l.insts)) l.first
