use Rattle.tag_story.proofs.BlockPlaces.{least-place, no-place}
use Rattle.tag_story.proofs.laws.a_block_has_the_least_place.Goals as goal

pub returns-clause-found : goal.returns-clause-found
returns-clause-found c e w v number task size chain is = least-place e w v number task size chain is

pub returns-clause-full : goal.returns-clause-full
returns-clause-full c e w number task size chain full is = no-place e w number task size chain full is
