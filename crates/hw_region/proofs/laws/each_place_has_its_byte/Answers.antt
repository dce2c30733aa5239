use Rattle.hw_region.proofs.PlaceLemmas.{place_before, place_written, place_after}
use Rattle.hw_region.proofs.laws.each_place_has_its_byte.Goals as goal

pub returns-clause-before : goal.returns-clause-before
returns-clause-before c = place_before

pub returns-clause-written : goal.returns-clause-written
returns-clause-written c = place_written

pub returns-clause-after : goal.returns-clause-after
returns-clause-after c = place_after
