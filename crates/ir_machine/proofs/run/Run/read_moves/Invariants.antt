use Rattle.std.proofs.Common.{◌≡◌, ◌++◌, map, length}
use Rattle.mi_code.specs.declared.edges.Move.{Move}
use Rattle.ir_machine.specs.Operands.{number_in}
use Rattle.ir_machine.proofs.run.Run.read_moves.Given as goal

abbrev pub invariant-loop-rest : goal.invariant-loop-rest
invariant-loop-rest l = l.numbers.items ++ map (λ (m : Move). number_in l.self.seen m.value) l.rest ≡ map (λ (m : Move). number_in l.self.seen m.value) l.fn.moves

abbrev pub decreases-loop-rest : goal.decreases-loop-rest
decreases-loop-rest l = length l.rest
