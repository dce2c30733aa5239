use Rattle.std.proofs.Common.{refl}
use Rattle.ir_meaning.specs.Shown.{shown_end, shown_spent}
use Rattle.ir_meaning.proofs.programs.small_programs.Goals as goal

pub returns-clause-loop_with_phis : goal.returns-clause-loop_with_phis
unfolding shown_end
returns-clause-loop_with_phis c = refl

pub returns-clause-string : goal.returns-clause-string
unfolding shown_end
returns-clause-string c = refl

pub returns-clause-copied_pointer : goal.returns-clause-copied_pointer
unfolding shown_end
returns-clause-copied_pointer c = refl

pub returns-clause-piece : goal.returns-clause-piece
unfolding shown_end
returns-clause-piece c = refl

pub returns-clause-constant : goal.returns-clause-constant
unfolding shown_end
returns-clause-constant c = refl

pub returns-clause-waits : goal.returns-clause-waits
unfolding shown_spent
returns-clause-waits c = refl
