use Rattle.tag_alloc.proofs.GapLemmas.{AreInOrder-with_block, AreInOrder-without, given-gaps, place-facts, place_for-gaps, rounded-least, taken-gaps}
use Rattle.hw_base.specs.AddressMap.{rounded_size}
use Rattle.tag_alloc.proofs.laws.the_free_ranges_are_the_gaps.Goals as goal

pub returns-clause-place : goal.returns-clause-place
returns-clause-place c = λ size low high blocks ls hs h. place_for-gaps (rounded_size size) low high blocks (rounded-least size) ls hs h

pub returns-clause-born : goal.returns-clause-born
returns-clause-born c = λ block low high blocks ls hs h found.
    (taken-gaps block low high blocks h found, AreInOrder-with_block block low high blocks h (place-facts block.at (rounded_size block.size) low high blocks ls hs h found))

pub returns-clause-died : goal.returns-clause-died
returns-clause-died c = λ block low high blocks hs h found.
    (given-gaps block low high blocks hs h found, AreInOrder-without block.at low high blocks h)
