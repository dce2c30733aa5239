use Rattle.std.proofs.Common.{◌≡◌, ◌+◌, ◌++◌, length}
use Rattle.ir_functions.specs.Scope.{definition_numbers}
use Rattle.ir_functions.proofs.functions.definition_numbers.Given as goal

abbrev pub invariant-loop-rest : goal.invariant-loop-rest
invariant-loop-rest l = record {
  number : l.registers + l.blocks + length l.rest ≡ length l.fn.defined;
  numbers : l.numbers.items ++ definition_numbers l.registers l.blocks l.rest ≡ definition_numbers 0 0 l.fn.defined;
}

abbrev pub decreases-loop-rest : goal.decreases-loop-rest
decreases-loop-rest l = length l.rest
