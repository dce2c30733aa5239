use Rattle.std.proofs.Common.{refl}
use Rattle.ir_machine.specs.Shown.{shown_run}
use Rattle.ir_machine.proofs.examples.a_written_last_byte_hides_an_overflow.Goals as goal

pub returns : goal.returns
unfolding shown_run
returns c = refl
