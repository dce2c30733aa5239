use Rattle.tbi_memory.proofs.MappedBytesLemmas.{write_below, write_above, write_inside}
use Rattle.tbi_memory.proofs.laws.a_write_changes_its_bytes_alone.Goals as goal

pub returns-clause-below : goal.returns-clause-below
returns-clause-below c = write_below

pub returns-clause-above : goal.returns-clause-above
returns-clause-above c = write_above

pub returns-clause-inside : goal.returns-clause-inside
returns-clause-inside c = write_inside
