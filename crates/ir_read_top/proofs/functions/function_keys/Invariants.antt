use Rattle.std.proofs.Common.{◌≡◌, ◌++◌, map, length}
use Rattle.ir_names.specs.Places.{keys_in}
use Rattle.ir_functions.specs.Resolution.{spelled_function}
use Rattle.ir_read_top.specs.Functions.{function_keys}
use Rattle.ir_read_top.proofs.functions.function_keys.Given as goal

abbrev pub invariant-loop-rest : goal.invariant-loop-rest
invariant-loop-rest l = keys_in l.keys.items ++ function_keys l.source (map spelled_function l.rest) ≡ function_keys l.source (map spelled_function l.functions)

abbrev pub decreases-loop-rest : goal.decreases-loop-rest
decreases-loop-rest l = length l.rest
