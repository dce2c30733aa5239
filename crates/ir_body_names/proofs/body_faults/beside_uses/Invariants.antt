use Rattle.std.proofs.Common.{◌≡◌, length}
use Rattle.std.specs.List.{flat_map}
use Rattle.ir_names.specs.First.{first_beside}
use Rattle.ir_body_names.specs.BodyFaults.{use_faults}
use Rattle.ir_body_names.specs.Views.{surroundings_of}
use Rattle.ir_body_names.proofs.body_faults.beside_uses.Given as goal

abbrev pub invariant-loop-rest : goal.invariant-loop-rest
invariant-loop-rest l =
    first_beside l.found (flat_map (use_faults (surroundings_of l.names) l.index l.fn.defined l.entry) l.rest)
    ≡ first_beside l.fn.first (flat_map (use_faults (surroundings_of l.names) l.index l.fn.defined l.entry) l.fn.used)

abbrev pub decreases-loop-rest : goal.decreases-loop-rest
decreases-loop-rest l = length l.rest
