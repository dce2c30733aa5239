use Rattle.hw_holes.proofs.LawLemmas.{IsFree-given, IsNotFree-given, free_bytes-given}
use Rattle.hw_holes.proofs.laws.what_is_given_is_free_alone.Goals as goal

pub returns-clause-others : goal.returns-clause-others
returns-clause-others c = IsNotFree-given

pub returns-clause-bytes : goal.returns-clause-bytes
returns-clause-bytes c = free_bytes-given

pub returns-clause-given : goal.returns-clause-given
returns-clause-given c = IsFree-given
