use Rattle.std.proofs.Common.{◌≡◌, ◌++◌, length}
use Rattle.ir_functions.specs.Functions.{register_types}
use Rattle.ir_functions.specs.Views.{scope_in}
use Rattle.ir_functions.proofs.resolver.Resolver.add_register_types.Given as goal

abbrev pub invariant-loop-rest : goal.invariant-loop-rest
invariant-loop-rest l = l.types ++ register_types (scope_in l.self) l.rest ≡ l.fn.types ++ register_types (scope_in l.self) l.fn.instructions

abbrev pub decreases-loop-rest : goal.decreases-loop-rest
decreases-loop-rest l = length l.rest
