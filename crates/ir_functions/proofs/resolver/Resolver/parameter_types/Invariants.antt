use Rattle.std.proofs.Common.{◌≡◌, ◌++◌, map, length}
use Rattle.ir_functions.specs.Scope.{type_number}
use Rattle.ir_functions.specs.Views.{scope_in}
use Rattle.ir_functions.proofs.resolver.Resolver.parameter_types.Given as goal

abbrev pub invariant-loop-rest : goal.invariant-loop-rest
invariant-loop-rest l = l.types ++ map (λ p. type_number (scope_in l.self) p.ty) l.rest ≡ map (λ p. type_number (scope_in l.self) p.ty) l.fn.parameters

abbrev pub decreases-loop-rest : goal.decreases-loop-rest
decreases-loop-rest l = length l.rest
