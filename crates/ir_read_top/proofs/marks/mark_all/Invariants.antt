use Rattle.std.proofs.Common.{◌≡◌, length}
use Rattle.ir_read_top.specs.Module.{marked}
use Rattle.ir_read_top.proofs.marks.mark_all.Given as goal

abbrev pub invariant-loop-rest : goal.invariant-loop-rest
invariant-loop-rest l = marked l.marks l.rest ≡ marked l.fn.marks l.items

abbrev pub decreases-loop-rest : goal.decreases-loop-rest
decreases-loop-rest l = length l.rest
