use Rattle.std.proofs.Common.{◌≡◌, ◌++◌, map, length}
use Rattle.ir_body_names.specs.Views.{surroundings_of}
use Rattle.ir_first_values.specs.Tables.{tables_of}
use Rattle.ir_read_items.specs.Rows.{Each}
use Rattle.ir_functions.specs.Functions.{function_of}
use Rattle.ir_functions.specs.Resolution.{spelled_function}
use Rattle.ir_read_top.specs.Functions.{IsShort}
use Rattle.ir_read_top.proofs.functions.resolved_functions.Given as goal

abbrev pub invariant-loop-rest : goal.invariant-loop-rest
invariant-loop-rest l =
    (l.found ++ map (function_of (surroundings_of l.names) (tables_of l.values) l.values.module.now) (map spelled_function l.rest) ≡ map (function_of (surroundings_of l.names) (tables_of l.values) l.values.module.now) (map spelled_function l.functions))
    × Each (IsShort (surroundings_of l.names)) (map spelled_function l.rest)

abbrev pub decreases-loop-rest : goal.decreases-loop-rest
decreases-loop-rest l = length l.rest
