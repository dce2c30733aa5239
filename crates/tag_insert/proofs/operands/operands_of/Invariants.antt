use Rattle.std.proofs.Common.{◌≡◌, map, take}
use Rattle.mi_code.specs.MachineOperands.{operand_of}
use Rattle.tag_insert.proofs.operands.operands_of.Given as goal

abbrev pub invariant-loop-arg : goal.invariant-loop-arg
invariant-loop-arg l = l.operands ≡ map operand_of (take l.arg-index l.args)
