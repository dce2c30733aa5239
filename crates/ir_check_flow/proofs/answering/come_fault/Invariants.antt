use Rattle.std.proofs.Common.{◌≡◌, drop}
use Rattle.ir_check_types.specs.Order.{earlier}
use Rattle.ir_check_flow.specs.Answering.{come_fault}
use Rattle.ir_check_flow.proofs.answering.come_fault.Given as goal

abbrev pub invariant-loop-k : goal.invariant-loop-k
invariant-loop-k l = earlier l.first (come_fault l.reach l.k (drop l.k l.questions)) ≡ come_fault l.reach 0 l.questions
