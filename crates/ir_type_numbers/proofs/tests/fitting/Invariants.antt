use Rattle.std.proofs.Common.{All}
use Rattle.ir_type_numbers.specs.Numbering.{FitsModule}
use Rattle.ir_type_numbers.proofs.tests.fitting.Given as goal

abbrev pub invariant-loop-ty : goal.invariant-loop-ty
invariant-loop-ty l = All FitsModule l.types.items
