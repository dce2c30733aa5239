use Rattle.std.proofs.Common.{refl}
use Rattle.ir_meaning.specs.Shown.{shown_end}
use Rattle.ir_meaning.proofs.examples.exits_and_traps.Goals as goal

pub returns-clause-exit : goal.returns-clause-exit
unfolding shown_end
returns-clause-exit c = refl

pub returns-clause-unreachable : goal.returns-clause-unreachable
unfolding shown_end
returns-clause-unreachable c = refl

pub returns-clause-division_by_zero : goal.returns-clause-division_by_zero
unfolding shown_end
returns-clause-division_by_zero c = refl
