use Rattle.std.proofs.Common.{◌≡◌, ◌++◌, length}
use Rattle.std.specs.List.{flat_map}
use Rattle.ir_body_names.specs.Uses.{typed_uses}
use Rattle.ir_body_names.proofs.uses.add_operands.Given as goal

abbrev pub invariant-loop-rest : goal.invariant-loop-rest
invariant-loop-rest l = l.used.items ++ flat_map typed_uses l.rest ≡ l.fn.used.items ++ flat_map typed_uses l.fn.operands

abbrev pub decreases-loop-rest : goal.decreases-loop-rest
decreases-loop-rest l = length l.rest
