use Rattle.tag_alloc.proofs.HeapBlockLemmas.{free_mismatch-none, freeable-none}
use Rattle.tag_alloc.proofs.laws.the_free_rule.Goals as goal

pub returns : goal.returns
returns c heap number = (free_mismatch-none heap number, freeable-none heap number)
