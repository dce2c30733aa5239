use Rattle.std.proofs.Common.{◌≡◌, ◌∷◌, map, take}
use Rattle.ir_core.specs.declared.operands.Case.{Case}
use Rattle.ir_check_flow.proofs.ways.switch_targets.Given as goal

abbrev pub invariant-loop-case : goal.invariant-loop-case
invariant-loop-case l = l.targets.items ≡ l.other ∷ map (λ (case : Case). case.block) (take l.case-index l.cases)
