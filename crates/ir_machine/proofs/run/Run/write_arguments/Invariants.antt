use Rattle.std.proofs.Common.{◌≡◌, ◌+◌, ◌<◌, ◌^◌, length}
use Rattle.ir_machine.specs.CallSteps.{with_arguments}
use Rattle.ir_machine.specs.RunStates.{with_frame}
use Rattle.ir_machine.proofs.run.Run.write_arguments.Given as goal

abbrev pub invariant-loop-rest : goal.invariant-loop-rest
invariant-loop-rest l = record {
  few : l.k + length l.rest < 2 ^ 32;
  only_registers : l.self ≡ with_frame l.fn.self (record l.fn.self.seen.frame { registers = l.self.seen.frame.registers });
  set : with_arguments l.self.seen.frame.registers l.k l.rest ≡ with_arguments l.fn.self.seen.frame.registers 0 l.fn.numbers;
}

abbrev pub decreases-loop-rest : goal.decreases-loop-rest
decreases-loop-rest l = length l.rest
