use Rattle.std.proofs.Common.{refl}
use Rattle.tag_story.specs.ShownStory.{shown_full}
use Rattle.tag_story.proofs.further_examples.full_stories.Goals as goal

pub returns-clause-third_block : goal.returns-clause-third_block
unfolding shown_full
returns-clause-third_block c = refl

pub returns-clause-large_table : goal.returns-clause-large_table
unfolding shown_full
returns-clause-large_table c = refl

pub returns-clause-large_variable : goal.returns-clause-large_variable
unfolding shown_full
returns-clause-large_variable c = refl
