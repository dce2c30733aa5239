use Rattle.tag_story.proofs.ToldLaws.{all_told-append}
use Rattle.tag_story.proofs.laws.stories_go_on.Goals as goal

pub returns : goal.returns
returns c = all_told-append
