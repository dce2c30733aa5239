use Rattle.std.proofs.Common.{refl}
use Rattle.ir_meaning.specs.AccessRule.{access_rule}
use Rattle.ir_meaning.proofs.ends_of_runs.frees_by_the_access_rule.Goals as goal

pub returns-clause-null : goal.returns-clause-null
unfolding access_rule
returns-clause-null c = refl

pub returns-clause-null_with_an_offset : goal.returns-clause-null_with_an_offset
unfolding access_rule
returns-clause-null_with_an_offset c = refl

pub returns-clause-living : goal.returns-clause-living
unfolding access_rule
returns-clause-living c = refl

pub returns-clause-dead : goal.returns-clause-dead
unfolding access_rule
returns-clause-dead c = refl

pub returns-clause-inner : goal.returns-clause-inner
unfolding access_rule
returns-clause-inner c = refl

pub returns-clause-global : goal.returns-clause-global
unfolding access_rule
returns-clause-global c = refl

pub returns-clause-read_of_nothing : goal.returns-clause-read_of_nothing
unfolding access_rule
returns-clause-read_of_nothing c = refl

pub returns-clause-read_of_null : goal.returns-clause-read_of_null
unfolding access_rule
returns-clause-read_of_null c = refl

pub returns-clause-read_of_the_dead : goal.returns-clause-read_of_the_dead
unfolding access_rule
returns-clause-read_of_the_dead c = refl

pub returns-clause-write_to_a_constant : goal.returns-clause-write_to_a_constant
unfolding access_rule
returns-clause-write_to_a_constant c = refl
