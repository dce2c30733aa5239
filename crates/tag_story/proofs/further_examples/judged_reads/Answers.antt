use Rattle.std.proofs.Common.{refl}
use Rattle.tag_story.specs.ShownStory.{shown_judgement}
use Rattle.tag_story.proofs.further_examples.judged_reads.Goals as goal

pub returns-clause-no_bytes : goal.returns-clause-no_bytes
unfolding shown_judgement
returns-clause-no_bytes c = refl

pub returns-clause-another_tag : goal.returns-clause-another_tag
unfolding shown_judgement
returns-clause-another_tag c = refl

pub returns-clause-open_string : goal.returns-clause-open_string
unfolding shown_judgement
returns-clause-open_string c = refl

pub returns-clause-grown : goal.returns-clause-grown
unfolding shown_judgement
returns-clause-grown c = refl

pub returns-clause-past_the_heap : goal.returns-clause-past_the_heap
unfolding shown_judgement
returns-clause-past_the_heap c = refl

pub returns-clause-equal_tag_and_short_granule : goal.returns-clause-equal_tag_and_short_granule
unfolding shown_judgement
returns-clause-equal_tag_and_short_granule c = refl

pub returns-clause-returned : goal.returns-clause-returned
unfolding shown_judgement
returns-clause-returned c = refl

pub returns-clause-in_a_hole : goal.returns-clause-in_a_hole
unfolding shown_judgement
returns-clause-in_a_hole c = refl
