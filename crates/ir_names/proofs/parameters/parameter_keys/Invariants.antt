use Rattle.std.proofs.Common.{◌≡◌, ◌++◌, length}
use Rattle.ir_names.specs.Faults.{parameter_keys}
use Rattle.ir_names.specs.Places.{keys_in}
use Rattle.ir_names.proofs.parameters.parameter_keys.Given as goal

abbrev pub invariant-loop-rest : goal.invariant-loop-rest
invariant-loop-rest l = keys_in l.keys.items ++ parameter_keys l.source l.rest ≡ parameter_keys l.source l.fn.parameters

abbrev pub decreases-loop-rest : goal.decreases-loop-rest
decreases-loop-rest l = length l.rest
