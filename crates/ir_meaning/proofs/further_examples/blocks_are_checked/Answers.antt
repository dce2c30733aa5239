use Rattle.std.proofs.Common.{refl}
use Rattle.ir_meaning.specs.Shown.{shown_end}
use Rattle.ir_meaning.proofs.further_examples.blocks_are_checked.Goals as goal

pub returns-clause-no_bytes : goal.returns-clause-no_bytes
unfolding shown_end
returns-clause-no_bytes c = refl

pub returns-clause-twice : goal.returns-clause-twice
unfolding shown_end
returns-clause-twice c = refl

pub returns-clause-inner : goal.returns-clause-inner
unfolding shown_end
returns-clause-inner c = refl

pub returns-clause-global : goal.returns-clause-global
unfolding shown_end
returns-clause-global c = refl

pub returns-clause-null : goal.returns-clause-null
unfolding shown_end
returns-clause-null c = refl

pub returns-clause-inner_of_realloc : goal.returns-clause-inner_of_realloc
unfolding shown_end
returns-clause-inner_of_realloc c = refl

pub returns-clause-far_past : goal.returns-clause-far_past
unfolding shown_end
returns-clause-far_past c = refl
