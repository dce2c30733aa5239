use Rattle.std.proofs.Common.{◌≡◌, ◌++◌, map, length}
use Rattle.ir_core.specs.declared.ir_module.Function.{Function}
use Rattle.ir_machine.proofs.program.variables_of.Given as goal

abbrev pub invariant-loop-rest : goal.invariant-loop-rest
invariant-loop-rest l = l.found.items ++ map (λ (f : Function). f.allocas) l.rest ≡ map (λ (f : Function). f.allocas) l.fn.functions

abbrev pub decreases-loop-rest : goal.decreases-loop-rest
decreases-loop-rest l = length l.rest
