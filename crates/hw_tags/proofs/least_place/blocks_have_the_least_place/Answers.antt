use Rattle.std.proofs.Common.{refl}
use Rattle.hw_tags.specs.LeastPlace.{first_place}
use Rattle.hw_tags.proofs.LeastPlaceLemmas.{least_fit-some, least_fit-none}
use Rattle.hw_tags.proofs.least_place.blocks_have_the_least_place.Goals as goal

pub returns-clause-found : goal.returns-clause-found
returns-clause-found c = least_fit-some

pub returns-clause-none : goal.returns-clause-none
returns-clause-none c = least_fit-none

pub returns-clause-in_the_hole : goal.returns-clause-in_the_hole
unfolding first_place
returns-clause-in_the_hole c = refl

pub returns-clause-no_hole : goal.returns-clause-no_hole
unfolding first_place
returns-clause-no_hole c = refl

pub returns-clause-large_heap : goal.returns-clause-large_heap
unfolding first_place
returns-clause-large_heap c = refl
