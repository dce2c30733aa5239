use Rattle.std.proofs.Common.{◌≡◌, length}
use Rattle.ir_functions.specs.Instructions.{debug_location}
use Rattle.ir_functions.specs.Views.{scope_in}
use Rattle.ir_functions.proofs.resolver.Resolver.debug_location.Given as goal

abbrev pub invariant-loop-rest : goal.invariant-loop-rest
invariant-loop-rest l = debug_location (scope_in l.self) l.rest ≡ debug_location (scope_in l.self) l.fn.attachments

abbrev pub decreases-loop-rest : goal.decreases-loop-rest
decreases-loop-rest l = length l.rest
