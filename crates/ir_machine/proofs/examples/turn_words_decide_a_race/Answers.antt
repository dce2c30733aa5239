use Rattle.std.proofs.Common.{refl}
use Rattle.ir_machine.specs.Shown.{shown_run}
use Rattle.ir_machine.proofs.examples.turn_words_decide_a_race.Goals as goal

pub returns-clause-first_task : goal.returns-clause-first_task
unfolding shown_run
returns-clause-first_task c = refl

pub returns-clause-second_task : goal.returns-clause-second_task
unfolding shown_run
returns-clause-second_task c = refl
