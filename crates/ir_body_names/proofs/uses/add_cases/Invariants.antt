use Rattle.std.proofs.Common.{◌≡◌, ◌++◌, length}
use Rattle.std.specs.List.{flat_map}
use Rattle.ir_body_names.specs.Uses.{case_uses}
use Rattle.ir_body_names.proofs.uses.add_cases.Given as goal

abbrev pub invariant-loop-rest : goal.invariant-loop-rest
invariant-loop-rest l = l.used.items ++ flat_map case_uses l.rest ≡ l.fn.used.items ++ flat_map case_uses l.fn.cases

abbrev pub decreases-loop-rest : goal.decreases-loop-rest
decreases-loop-rest l = length l.rest
