use Rattle.std.proofs.Common.{◌≡◌, length}
use Rattle.ir_names.specs.Starts.{marked_by}
use Rattle.ir_names.proofs.starts.mark_all.Given as goal

abbrev pub invariant-loop-rest : goal.invariant-loop-rest
invariant-loop-rest l = marked_by l.source l.index l.items l.operands l.constants l.marks l.rest ≡ marked_by l.source l.index l.items l.operands l.constants l.fn.marks l.fn.found.bodies.instructions.items

abbrev pub decreases-loop-rest : goal.decreases-loop-rest
decreases-loop-rest l = length l.rest
