use Rattle.tag_story.proofs.ToldLaws.{no_story-laid, told-laid, all-laid}
use Rattle.tag_story.proofs.laws.stories_are_laid_out.Goals as goal

pub returns-clause-start : goal.returns-clause-start
returns-clause-start c = no_story-laid

pub returns-clause-told : goal.returns-clause-told
returns-clause-told c = told-laid

pub returns-clause-all : goal.returns-clause-all
returns-clause-all c = all-laid
