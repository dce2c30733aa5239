use Rattle.std.proofs.Common.{◌≡◌, ◌++◌, map, length}
use Rattle.ir_names.specs.Meanings.{variable}
use Rattle.ir_names.proofs.constants.variables_of.Given as goal

abbrev pub invariant-loop-rest : goal.invariant-loop-rest
invariant-loop-rest l = l.found.items ++ map (variable l.source l.index l.numbers) l.rest ≡ map (variable l.source l.index l.numbers) l.fn.constants

abbrev pub decreases-loop-rest : goal.decreases-loop-rest
decreases-loop-rest l = length l.rest
