use Rattle.std.proofs.Common.{◌≡◌, ◌++◌, length}
use Rattle.ir_read_top.specs.Module.{declares_of}
use Rattle.ir_read_top.proofs.declared.declares_of.Given as goal

abbrev pub invariant-loop-rest : goal.invariant-loop-rest
invariant-loop-rest l = l.declares ++ declares_of l.numbers l.parameters l.rest l.functions ≡ declares_of l.numbers l.parameters l.items l.libs

abbrev pub decreases-loop-rest : goal.decreases-loop-rest
decreases-loop-rest l = length l.rest
