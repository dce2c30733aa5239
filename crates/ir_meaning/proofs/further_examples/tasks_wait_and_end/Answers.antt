use Rattle.std.proofs.Common.{refl}
use Rattle.ir_meaning.specs.Shown.{shown_end, shown_spent}
use Rattle.ir_meaning.proofs.further_examples.tasks_wait_and_end.Goals as goal

pub returns-clause-join : goal.returns-clause-join
unfolding shown_end
returns-clause-join c = refl

pub returns-clause-join_waits : goal.returns-clause-join_waits
unfolding shown_end
returns-clause-join_waits c = refl

pub returns-clause-join_stays : goal.returns-clause-join_stays
unfolding shown_spent
returns-clause-join_stays c = refl

pub returns-clause-unlock : goal.returns-clause-unlock
unfolding shown_end
returns-clause-unlock c = refl

pub returns-clause-exit : goal.returns-clause-exit
unfolding shown_end
returns-clause-exit c = refl
