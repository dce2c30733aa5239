use Rattle.std.proofs.Common.{◌≡◌, map, length}
use Rattle.ir_names.specs.First.{first_beside}
use Rattle.ir_body_names.specs.Views.{surroundings_of}
use Rattle.ir_functions.specs.Resolution.{spelled_function}
use Rattle.ir_read_top.specs.Functions.{function_faults}
use Rattle.ir_read_top.proofs.functions.beside_functions.Given as goal

abbrev pub invariant-loop-rest : goal.invariant-loop-rest
invariant-loop-rest l =
    first_beside l.fault (function_faults (surroundings_of l.names) (map spelled_function l.rest)) ≡ first_beside l.fn.first (function_faults (surroundings_of l.names) (map spelled_function l.functions))

abbrev pub decreases-loop-rest : goal.decreases-loop-rest
decreases-loop-rest l = length l.rest
