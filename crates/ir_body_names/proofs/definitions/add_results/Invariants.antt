use Rattle.std.proofs.Common.{◌≡◌, ◌++◌, length}
use Rattle.std.specs.List.{flat_map}
use Rattle.ir_body_names.specs.Definitions.{is_void, result_definitions}
use Rattle.ir_body_names.specs.Views.{surroundings_of}
use Rattle.ir_body_names.proofs.definitions.add_results.Given as goal

abbrev pub invariant-loop-rest : goal.invariant-loop-rest
invariant-loop-rest l =
    l.defined.items ++ flat_map (result_definitions (is_void (surroundings_of l.names).types (surroundings_of l.names).numbers)) l.rest
    ≡ l.fn.defined.items ++ flat_map (result_definitions (is_void (surroundings_of l.names).types (surroundings_of l.names).numbers)) l.fn.instructions

abbrev pub decreases-loop-rest : goal.decreases-loop-rest
decreases-loop-rest l = length l.rest
