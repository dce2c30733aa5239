use Rattle.std.proofs.Common.{◌≡◌, [], take, drop}
use Rattle.ir_check_types.specs.Order.{earlier}
use Rattle.ir_check_types.specs.Instructions.{cases_fault}
use Rattle.ir_check_types.proofs.switches.cases_fault.Given as goal

abbrev pub invariant-loop-i : goal.invariant-loop-i
invariant-loop-i l = earlier l.so_far (cases_fault l.m l.f l.ty (take l.i l.cases) (drop l.i l.cases)) ≡ cases_fault l.m l.f l.ty [] l.cases
