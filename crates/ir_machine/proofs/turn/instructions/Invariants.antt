use Rattle.std.proofs.Common.{◌≡◌, ◌+◌, ◌-◌, drop, length}
use Rattle.hw_base.specs.declared.endings.Input.{Input}
use Rattle.ir_machine.specs.Built.{HasCode, IsPlainFrom}
use Rattle.ir_machine.specs.InstructionStep.{steps_within}
use Rattle.ir_machine.specs.State.{MachineSetting}
use Rattle.ir_machine.proofs.turn.instructions.Given as goal

abbrev pub invariant-loop-tried : goal.invariant-loop-tried
invariant-loop-tried l = record {
  func : l.run.seen.frame.func ≡ l.fn.run.seen.frame.func;
  task : l.run.seen.task ≡ l.fn.run.seen.task;
  shared : l.run.seen.shared ≡ l.fn.run.seen.shared;
  words : l.words ≡ l.fn.words;
  place : l.run.seen.frame.place ≡ l.fn.run.seen.frame.place + l._tried;
  steps : (setting : MachineSetting) (given : Input) → HasCode setting l.program.code
      → steps_within setting given (length l.insts) l.fn.run.seen ≡ steps_within setting given (length l.insts - l._tried) l.run.seen;
  plain : IsPlainFrom (drop l.fn.run.seen.frame.place l.insts) → IsPlainFrom (drop l.run.seen.frame.place l.insts);
}
