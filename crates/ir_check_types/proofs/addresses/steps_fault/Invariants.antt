use Rattle.std.proofs.Common.{◌≡◌, drop}
use Rattle.ir_check_types.specs.Order.{earlier}
use Rattle.ir_check_types.specs.Instructions.{steps_fault}
use Rattle.ir_check_types.proofs.addresses.steps_fault.Given as goal

abbrev pub invariant-loop-index : goal.invariant-loop-index
invariant-loop-index l = earlier l.so_far (steps_fault l.m l.f l.inner (drop l.index-index l.indices)) ≡ steps_fault l.m l.f l.fn.ty l.indices
