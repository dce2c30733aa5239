use Rattle.std.proofs.Common.{◌+◌, length}
use Rattle.ir_check_flow.specs.Spreading.{lists_of, IsSpreading, room_left}
use Rattle.ir_check_flow.proofs.spreading.spread.Given as goal

abbrev pub invariant-loop-next : goal.invariant-loop-next
invariant-loop-next l = IsSpreading (lists_of l.ways) l.answered l.asked l.reach.items l.work.items

abbrev pub decreases-loop-next : goal.decreases-loop-next
decreases-loop-next l = room_left l.reach.items + length l.work.items
