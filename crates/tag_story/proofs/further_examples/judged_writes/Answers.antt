use Rattle.std.proofs.Common.{refl}
use Rattle.tag_story.specs.ShownStory.{shown_judgement}
use Rattle.tag_story.proofs.further_examples.judged_writes.Goals as goal

pub returns : goal.returns
unfolding shown_judgement
returns c = record { in_the_middle = refl }
