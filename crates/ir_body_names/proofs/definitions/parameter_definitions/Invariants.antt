use Rattle.std.proofs.Common.{◌≡◌, ◌++◌, length, map}
use Rattle.ir_body_names.specs.Definitions.{parameter_definition}
use Rattle.ir_body_names.proofs.definitions.parameter_definitions.Given as goal

abbrev pub invariant-loop-rest : goal.invariant-loop-rest
invariant-loop-rest l = l.defined.items ++ map parameter_definition l.rest ≡ map parameter_definition l.fn.parameters

abbrev pub decreases-loop-rest : goal.decreases-loop-rest
decreases-loop-rest l = length l.rest
