use Rattle.std.proofs.Common.{◌≡◌, length}
use Rattle.ir_machine.specs.BranchSteps.{case_for}
use Rattle.ir_machine.proofs.branches.case_for.Given as goal

abbrev pub invariant-loop-rest : goal.invariant-loop-rest
invariant-loop-rest l = case_for l.n l.other l.rest ≡ case_for l.n l.other l.fn.cases

abbrev pub decreases-loop-rest : goal.decreases-loop-rest
decreases-loop-rest l = length l.rest
