use Rattle.std.proofs.Common.{refl}
use Rattle.tag_story.specs.ShownStory.{shown_judgement}
use Rattle.tag_story.proofs.examples.judged_violations.Goals as goal

pub returns-clause-short_granule : goal.returns-clause-short_granule
unfolding shown_judgement
returns-clause-short_granule c = refl

pub returns-clause-equal_tag : goal.returns-clause-equal_tag
unfolding shown_judgement
returns-clause-equal_tag c = refl

pub returns-clause-freed : goal.returns-clause-freed
unfolding shown_judgement
returns-clause-freed c = refl

pub returns-clause-returned : goal.returns-clause-returned
unfolding shown_judgement
returns-clause-returned c = refl

pub returns-clause-returned_with_one_tag : goal.returns-clause-returned_with_one_tag
unfolding shown_judgement
returns-clause-returned_with_one_tag c = refl

pub returns-clause-before_a_block : goal.returns-clause-before_a_block
unfolding shown_judgement
returns-clause-before_a_block c = refl

pub returns-clause-freed_by_another_task : goal.returns-clause-freed_by_another_task
unfolding shown_judgement
returns-clause-freed_by_another_task c = refl
