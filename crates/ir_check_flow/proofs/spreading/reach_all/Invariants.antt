use Rattle.std.proofs.Common.{take}
use Rattle.ir_check_flow.specs.Spreading.{AreReached}
use Rattle.ir_check_flow.proofs.spreading.reach_all.Given as goal

abbrev pub invariant-loop-to : goal.invariant-loop-to
invariant-loop-to l = AreReached (take l.to-index l.targets) l.bits l.initial.reach l.initial.work.items l.reach l.work.items
