use Rattle.hw_shadow.proofs.TagRuleLemmas.{refusing_of-some}
use Rattle.hw_shadow.proofs.laws.the_first_refuses.Goals as goal

pub returns : goal.returns
returns c = refusing_of-some
