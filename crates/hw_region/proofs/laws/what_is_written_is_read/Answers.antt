use Rattle.hw_region.proofs.RegionLemmas.{number_from_written}
use Rattle.hw_region.proofs.laws.what_is_written_is_read.Goals as goal

pub returns-clause-number : goal.returns-clause-number
returns-clause-number c = number_from_written
