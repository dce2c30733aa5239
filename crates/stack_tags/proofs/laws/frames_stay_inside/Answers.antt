use Rattle.stack_tags.proofs.FrameLemmas.{variables-bytes_below, variables-bytes_above, variables-tags_below, variables-tags_above}
use Rattle.stack_tags.proofs.laws.frames_stay_inside.Goals as goal

pub returns-clause-bytes_below : goal.returns-clause-bytes_below
returns-clause-bytes_below c = variables-bytes_below

pub returns-clause-bytes_above : goal.returns-clause-bytes_above
returns-clause-bytes_above c = variables-bytes_above

pub returns-clause-tags_below : goal.returns-clause-tags_below
returns-clause-tags_below c = variables-tags_below

pub returns-clause-tags_above : goal.returns-clause-tags_above
returns-clause-tags_above c = variables-tags_above
