use Rattle.std.proofs.Common.{◌≡◌, length, All}
use Rattle.ir_machine.specs.AddressSteps.{stepped_address}
use Rattle.ir_machine.specs.Built.{IsBuiltStep}
use Rattle.ir_machine.proofs.run.Run.stepped_address.Given as goal

abbrev pub invariant-loop-rest : goal.invariant-loop-rest
invariant-loop-rest l =
    (l.self ≡ l.fn.self) × All IsBuiltStep l.rest × (stepped_address l.fn.self.seen l.at l.rest ≡ stepped_address l.fn.self.seen l.base l.steps)

abbrev pub decreases-loop-rest : goal.decreases-loop-rest
decreases-loop-rest l = length l.rest
