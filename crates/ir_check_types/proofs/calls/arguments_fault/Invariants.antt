use Rattle.std.proofs.Common.{◌≡◌, ◌+◌, drop}
use Rattle.ir_check_types.specs.Order.{earlier}
use Rattle.ir_check_types.specs.Calls.{arguments_fault}
use Rattle.ir_check_types.proofs.calls.arguments_fault.Given as goal

abbrev pub invariant-loop-i : goal.invariant-loop-i
invariant-loop-i l = earlier l.so_far (arguments_fault l.m l.f l.types (l.from + l.i) (drop l.i l.args)) ≡ arguments_fault l.m l.f l.types l.from l.args
