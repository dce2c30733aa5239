use Rattle.std.proofs.Common.{refl}
use Rattle.ir_meaning.specs.Shown.{shown_end_with, shown_input}
use Rattle.ir_meaning.proofs.ends_of_runs.end_of_the_input.Goals as goal

pub returns-clause-second : goal.returns-clause-second
unfolding shown_end_with shown_input
returns-clause-second c = refl

pub returns-clause-taken : goal.returns-clause-taken
unfolding shown_end_with shown_input
returns-clause-taken c = refl

pub returns-clause-both : goal.returns-clause-both
unfolding shown_end_with shown_input
returns-clause-both c = refl

pub returns-clause-none : goal.returns-clause-none
unfolding shown_end_with shown_input
returns-clause-none c = refl
