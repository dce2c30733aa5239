use Rattle.std.specs.Prelude.{map}
use Rattle.tbi_memory.specs.AddressSpace.{granules_of, mapped_ranges}
use Rattle.tbi_memory.proofs.StartLemmas.{byte_at-zeros}
use Rattle.tbi_memory.proofs.laws.all_is_zero_at_the_start.Goals as goal

pub returns-clause-bytes : goal.returns-clause-bytes
returns-clause-bytes c places layout address = byte_at-zeros (mapped_ranges places layout) address

pub returns-clause-tags : goal.returns-clause-tags
returns-clause-tags c places layout granule = byte_at-zeros (map granules_of (mapped_ranges places layout)) granule
