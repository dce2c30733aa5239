use Rattle.std.proofs.Common.{◌≡◌, ◌++◌, map, length}
use Rattle.ir_grammar.specs.Spelled.{store_of}
use Rattle.ir_functions.specs.Resolution.{spelled_function}
use Rattle.ir_read_top.specs.Functions.{spelled_functions, functions_in}
use Rattle.ir_read_top.proofs.functions.spelled_functions.Given as goal

abbrev pub invariant-loop-rest : goal.invariant-loop-rest
invariant-loop-rest l = map spelled_function l.functions.items ++ spelled_functions (store_of l.found) l.rest ≡ functions_in (store_of l.found)

abbrev pub decreases-loop-rest : goal.decreases-loop-rest
decreases-loop-rest l = length l.rest
