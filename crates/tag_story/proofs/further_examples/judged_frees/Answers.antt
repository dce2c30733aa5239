use Rattle.std.proofs.Common.{refl}
use Rattle.tag_story.specs.ShownStory.{shown_judgement}
use Rattle.tag_story.proofs.further_examples.judged_frees.Goals as goal

pub returns-clause-twice : goal.returns-clause-twice
unfolding shown_judgement
returns-clause-twice c = refl

pub returns-clause-inner : goal.returns-clause-inner
unfolding shown_judgement
returns-clause-inner c = refl

pub returns-clause-global : goal.returns-clause-global
unfolding shown_judgement
returns-clause-global c = refl

pub returns-clause-another_block : goal.returns-clause-another_block
unfolding shown_judgement
returns-clause-another_block c = refl

pub returns-clause-equal_tag : goal.returns-clause-equal_tag
unfolding shown_judgement
returns-clause-equal_tag c = refl

pub returns-clause-null_number : goal.returns-clause-null_number
unfolding shown_judgement
returns-clause-null_number c = refl
