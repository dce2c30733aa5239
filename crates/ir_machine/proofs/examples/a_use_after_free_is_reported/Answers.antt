use Rattle.std.proofs.Common.{refl}
use Rattle.ir_machine.specs.Shown.{shown_run}
use Rattle.ir_machine.proofs.examples.a_use_after_free_is_reported.Goals as goal

pub returns : goal.returns
unfolding shown_run
returns c = refl
