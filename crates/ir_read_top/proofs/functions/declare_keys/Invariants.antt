use Rattle.std.proofs.Common.{◌≡◌, ◌++◌, length}
use Rattle.ir_names.specs.Places.{keys_in}
use Rattle.ir_read_top.specs.Functions.{declare_keys}
use Rattle.ir_read_top.proofs.functions.declare_keys.Given as goal

abbrev pub invariant-loop-rest : goal.invariant-loop-rest
invariant-loop-rest l = keys_in l.keys.items ++ declare_keys l.source l.rest l.functions ≡ declare_keys l.source l.items l.libs

abbrev pub decreases-loop-rest : goal.decreases-loop-rest
decreases-loop-rest l = length l.rest
