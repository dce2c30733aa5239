use Rattle.std.proofs.Common.{refl}
use Rattle.ir_meaning.specs.Shown.{shown_end}
use Rattle.ir_meaning.proofs.further_examples.strings_are_checked.Goals as goal

pub returns : goal.returns
unfolding shown_end
returns c = record { open_string = refl }
