use Rattle.hw_shadow.proofs.ObjectTagLemmas.{length-object_tags, get-object_tags}
use Rattle.hw_shadow.proofs.laws.objects_have_tags.Goals as goal

pub returns-clause-count : goal.returns-clause-count
returns-clause-count c = length-object_tags

pub returns-clause-each : goal.returns-clause-each
returns-clause-each c = get-object_tags
