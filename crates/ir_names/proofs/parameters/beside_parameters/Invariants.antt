use Rattle.std.proofs.Common.{◌≡◌, ◌≤◌, ◌+◌, length}
use Rattle.ir_names.specs.First.{first_beside}
use Rattle.ir_names.specs.Faults.{parameters_faults}
use Rattle.ir_names.specs.Numbers.{counter_value}
use Rattle.ir_names.proofs.parameters.beside_parameters.Given as goal

abbrev pub invariant-loop-rest : goal.invariant-loop-rest
invariant-loop-rest l = record {
  number : l.i + length l.rest ≡ length l.fn.parameters;
  more : l.counter.more ≤ l.i;
  first : first_beside l.found (parameters_faults l.source l.index l.i (counter_value l.counter) l.rest) ≡ first_beside l.fn.first (parameters_faults l.source l.index 0 0 l.fn.parameters);
}

abbrev pub decreases-loop-rest : goal.decreases-loop-rest
decreases-loop-rest l = length l.rest
