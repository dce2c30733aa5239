use Rattle.std.proofs.Common.{◌≡◌, ◌++◌, map, length}
use Rattle.ir_functions.specs.Scope.{typed}
use Rattle.ir_functions.specs.Views.{scope_in}
use Rattle.ir_functions.proofs.resolver.Resolver.typed_row.Given as goal

abbrev pub invariant-loop-rest : goal.invariant-loop-rest
invariant-loop-rest l = l.row ++ map (typed (scope_in l.self)) l.rest ≡ map (typed (scope_in l.self)) l.fn.xs

abbrev pub decreases-loop-rest : goal.decreases-loop-rest
decreases-loop-rest l = length l.rest
