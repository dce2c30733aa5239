use Rattle.std.proofs.Common.{refl}
use Rattle.ir_meaning.specs.Shown.{shown_end, shown_news}
use Rattle.ir_meaning.proofs.further_examples.blocks_are_zero_and_grow.Goals as goal

pub returns-clause-new_block : goal.returns-clause-new_block
unfolding shown_end
returns-clause-new_block c = refl

pub returns-clause-grown : goal.returns-clause-grown
unfolding shown_end
returns-clause-grown c = refl

pub returns-clause-grown_news : goal.returns-clause-grown_news
unfolding shown_news
returns-clause-grown_news c = refl

pub returns-clause-compared : goal.returns-clause-compared
unfolding shown_end
returns-clause-compared c = refl

pub returns-clause-variable : goal.returns-clause-variable
unfolding shown_end
returns-clause-variable c = refl
