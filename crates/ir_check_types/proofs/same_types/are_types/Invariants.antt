use Rattle.std.proofs.Common.{◌≡◌, drop}
use Rattle.ir_check_types.specs.Rules.{are_types}
use Rattle.ir_check_types.proofs.same_types.are_types.Given as goal

abbrev pub invariant-loop-i : goal.invariant-loop-i
invariant-loop-i l = are_types l.m (drop l.i l.numbers) (drop l.i l.types) ≡ are_types l.m l.numbers l.types
