use Rattle.std.proofs.Common.{◌≡◌, ◌++◌, length}
use Rattle.ir_names.specs.Places.{keys_in}
use Rattle.ir_body_names.specs.Definitions.{keys_from, definition_keys}
use Rattle.ir_body_names.proofs.keys.definition_keys.Given as goal

abbrev pub invariant-loop-rest : goal.invariant-loop-rest
invariant-loop-rest l = keys_in l.keys.items ++ keys_from l.source l.counter.items l.rest ≡ definition_keys l.source l.fn.defined

abbrev pub decreases-loop-rest : goal.decreases-loop-rest
decreases-loop-rest l = length l.rest
