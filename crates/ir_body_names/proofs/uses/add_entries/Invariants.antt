use Rattle.std.proofs.Common.{◌≡◌, ◌++◌, length}
use Rattle.std.specs.List.{flat_map}
use Rattle.ir_body_names.specs.Uses.{incoming_uses}
use Rattle.ir_body_names.proofs.uses.add_entries.Given as goal

abbrev pub invariant-loop-rest : goal.invariant-loop-rest
invariant-loop-rest l = l.used.items ++ flat_map incoming_uses l.rest ≡ l.fn.used.items ++ flat_map incoming_uses l.fn.entries

abbrev pub decreases-loop-rest : goal.decreases-loop-rest
decreases-loop-rest l = length l.rest
