use Rattle.std.proofs.Common.{refl}
use Rattle.hw_shadow.specs.TagRule.{first_mismatch}
use Rattle.hw_shadow.proofs.examples.short_granules_agree.Goals as goal

pub returns-clause-second_granule : goal.returns-clause-second_granule
unfolding first_mismatch
returns-clause-second_granule c = refl

pub returns-clause-first_unmapped : goal.returns-clause-first_unmapped
unfolding first_mismatch
returns-clause-first_unmapped c = refl
