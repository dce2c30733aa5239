use Rattle.hw_region.proofs.RegionLemmas.{before_written, after_written}
use Rattle.hw_region.proofs.laws.other_bytes_stay.Goals as goal

pub returns-clause-before : goal.returns-clause-before
returns-clause-before c = before_written

pub returns-clause-after : goal.returns-clause-after
returns-clause-after c = after_written
