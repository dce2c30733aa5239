use Rattle.stack_tags.proofs.FrameLemmas.{low-ends, low-begins}
use Rattle.stack_tags.proofs.laws.a_frame_ends_at_the_one_before.Goals as goal

pub returns-clause-ends : goal.returns-clause-ends
returns-clause-ends c = low-ends

pub returns-clause-begins : goal.returns-clause-begins
returns-clause-begins c = low-begins
