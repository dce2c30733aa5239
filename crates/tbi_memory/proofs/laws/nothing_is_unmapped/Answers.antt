use Rattle.tbi_memory.proofs.MappedBytesLemmas.{write_some}
use Rattle.tbi_memory.proofs.laws.nothing_is_unmapped.Goals as goal

pub returns : goal.returns
returns c = write_some
