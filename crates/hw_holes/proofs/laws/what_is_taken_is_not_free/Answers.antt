use Rattle.hw_holes.proofs.LawLemmas.{IsNotFree-taken, IsNotFree-taken_other, free_bytes-taken}
use Rattle.hw_holes.proofs.laws.what_is_taken_is_not_free.Goals as goal

pub returns-clause-taken : goal.returns-clause-taken
returns-clause-taken c = IsNotFree-taken

pub returns-clause-others : goal.returns-clause-others
returns-clause-others c = IsNotFree-taken_other

pub returns-clause-bytes : goal.returns-clause-bytes
returns-clause-bytes c = free_bytes-taken
