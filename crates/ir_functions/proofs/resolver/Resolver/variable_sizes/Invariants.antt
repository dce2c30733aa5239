use Rattle.std.proofs.Common.{◌≡◌, ◌++◌, length}
use Rattle.ir_functions.specs.Functions.{variable_sizes}
use Rattle.ir_functions.specs.Views.{scope_in}
use Rattle.ir_functions.proofs.resolver.Resolver.variable_sizes.Given as goal

abbrev pub invariant-loop-rest : goal.invariant-loop-rest
invariant-loop-rest l = l.sizes ++ variable_sizes (scope_in l.self) l.rest ≡ variable_sizes (scope_in l.self) l.fn.instructions

abbrev pub decreases-loop-rest : goal.decreases-loop-rest
decreases-loop-rest l = length l.rest
