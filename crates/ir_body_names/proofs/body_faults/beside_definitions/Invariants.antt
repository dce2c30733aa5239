use Rattle.std.proofs.Common.{◌≡◌, ◌+◌, [], length}
use Rattle.ir_names.specs.First.{first_beside}
use Rattle.ir_body_names.specs.BodyFaults.{definitions_faults}
use Rattle.ir_body_names.proofs.body_faults.beside_definitions.Given as goal

abbrev pub invariant-loop-rest : goal.invariant-loop-rest
invariant-loop-rest l = record {
  number : l.i + length l.rest ≡ length l.fn.defined;
  first : first_beside l.found (definitions_faults l.source l.index l.i l.counter.items l.rest) ≡ first_beside l.fn.first (definitions_faults l.source l.index 0 [] l.fn.defined);
}

abbrev pub decreases-loop-rest : goal.decreases-loop-rest
decreases-loop-rest l = length l.rest
