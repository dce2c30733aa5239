use Rattle.std.proofs.Common.{◌≡◌, ◌+◌, ◌≤◌, ◌++◌, length}
use Rattle.ir_names.specs.Meanings.{numbered}
use Rattle.ir_names.proofs.constants.numbered.Given as goal

abbrev pub invariant-loop-rest : goal.invariant-loop-rest
invariant-loop-rest l = record {
  number : l.n + length l.rest ≤ length l.fn.items;
  numbers : l.numbers.items ++ numbered l.n l.rest ≡ numbered 0 l.fn.items;
}

abbrev pub decreases-loop-rest : goal.decreases-loop-rest
decreases-loop-rest l = length l.rest
