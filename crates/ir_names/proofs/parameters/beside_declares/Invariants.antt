use Rattle.std.proofs.Common.{◌≡◌, length}
use Rattle.std.specs.List.{flat_map}
use Rattle.ir_names.specs.First.{first_beside}
use Rattle.ir_names.specs.Faults.{declare_faults}
use Rattle.ir_names.proofs.parameters.beside_declares.Given as goal

abbrev pub invariant-loop-rest : goal.invariant-loop-rest
invariant-loop-rest l = first_beside l.found (flat_map (declare_faults l.source l.parameters) l.rest) ≡ first_beside l.fn.first (flat_map (declare_faults l.source l.parameters) l.items)

abbrev pub decreases-loop-rest : goal.decreases-loop-rest
decreases-loop-rest l = length l.rest
