use Rattle.std.proofs.Common.{◌≡◌, ◌+◌, length}
use Rattle.ir_names.specs.First.{first_beside}
use Rattle.ir_names.specs.Faults.{constants_faults}
use Rattle.ir_names.proofs.constants.beside_constants.Given as goal

abbrev pub invariant-loop-rest : goal.invariant-loop-rest
invariant-loop-rest l = record {
  number : l.i + length l.rest ≡ length l.fn.constants;
  faults : first_beside l.found (constants_faults l.source l.index l.items l.marks l.i l.rest) ≡ first_beside l.fn.first (constants_faults l.source l.index l.items l.marks 0 l.fn.constants);
}

abbrev pub decreases-loop-rest : goal.decreases-loop-rest
decreases-loop-rest l = length l.rest
