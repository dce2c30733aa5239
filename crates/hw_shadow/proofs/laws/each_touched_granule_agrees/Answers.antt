use Rattle.hw_shadow.proofs.TagRuleLemmas.{refusing_of-none, passes-refusing_of}
use Rattle.hw_shadow.proofs.laws.each_touched_granule_agrees.Goals as goal

pub returns : goal.returns
returns c tag last number size = (refusing_of-none tag last number size, passes-refusing_of tag last number size)
