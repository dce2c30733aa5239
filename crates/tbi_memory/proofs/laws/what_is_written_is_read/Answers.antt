use Rattle.tbi_memory.proofs.SpaceLemmas.{read-written}
use Rattle.tbi_memory.proofs.laws.what_is_written_is_read.Goals as goal

pub returns-clause-read : goal.returns-clause-read
returns-clause-read c = read-written
