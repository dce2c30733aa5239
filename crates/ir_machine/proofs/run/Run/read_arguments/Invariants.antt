use Rattle.std.proofs.Common.{◌≡◌, ◌++◌, length}
use Rattle.ir_machine.specs.Operands.{numbers_in}
use Rattle.ir_machine.proofs.run.Run.read_arguments.Given as goal

abbrev pub invariant-loop-rest : goal.invariant-loop-rest
invariant-loop-rest l = l.numbers.items ++ numbers_in l.self.seen l.rest ≡ numbers_in l.self.seen l.fn.args

abbrev pub decreases-loop-rest : goal.decreases-loop-rest
decreases-loop-rest l = length l.rest
