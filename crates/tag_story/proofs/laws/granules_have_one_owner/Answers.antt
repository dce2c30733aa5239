use Rattle.tag_story.proofs.Owners.{one-owner}
use Rattle.tag_story.proofs.laws.granules_have_one_owner.Goals as goal

pub returns : goal.returns
returns c = one-owner
