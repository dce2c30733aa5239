use Rattle.std.proofs.Common.{◌≡◌, length}
use Rattle.ir_machine.specs.BranchSteps.{with_registers}
use Rattle.ir_machine.specs.RunStates.{moves_with, with_frame}
use Rattle.ir_machine.proofs.run.Run.write_moves.Given as goal

abbrev pub invariant-loop-rest : goal.invariant-loop-rest
invariant-loop-rest l = record {
  only_frame : l.self ≡ with_frame l.fn.self l.self.seen.frame;
  set : with_registers l.self.seen.frame (moves_with l.rest l.values) ≡ with_registers l.fn.self.seen.frame (moves_with l.fn.moves l.fn.numbers);
}

abbrev pub decreases-loop-rest : goal.decreases-loop-rest
decreases-loop-rest l = length l.rest
