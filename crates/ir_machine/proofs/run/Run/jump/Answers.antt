use Rattle.ir_machine.proofs.MoveLemmas.{jumped}
use Rattle.ir_machine.proofs.run.Run.jump.Goals as goal

pub returns : goal.returns
returns c =
    jumped c.args.self.now c.write_moves.new.self c.go_to.new.self c.args.edge.now c.as_slice.result.now c.as_slice-2.result.now
    c.read_moves.new.numbers.items c.as_slice-3.result.now c.as_slice.ensures c.as_slice-2.ensures c.in-Ok.ensures c.as_slice-3.ensures.value
    c.write_moves.ensures c.go_to.ensures
