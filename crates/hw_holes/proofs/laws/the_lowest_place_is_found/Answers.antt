use Rattle.hw_holes.proofs.LawLemmas.{IsFree-place_for, place_for-least, place_for-none}
use Rattle.hw_holes.proofs.laws.the_lowest_place_is_found.Goals as goal

pub returns-clause-free : goal.returns-clause-free
returns-clause-free c = IsFree-place_for

pub returns-clause-lowest : goal.returns-clause-lowest
returns-clause-lowest c = place_for-least

pub returns-clause-none : goal.returns-clause-none
returns-clause-none c = place_for-none
