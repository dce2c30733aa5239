use Rattle.global_tags.proofs.GlobalLemmas.{get-descriptors, constants-within, variables-within}
use Rattle.global_tags.proofs.laws.globals_follow_each_other.Goals as goal

pub returns-clause-each : goal.returns-clause-each
returns-clause-each c = get-descriptors

pub returns-clause-constants : goal.returns-clause-constants
returns-clause-constants c = constants-within

pub returns-clause-variables : goal.returns-clause-variables
returns-clause-variables c = variables-within
