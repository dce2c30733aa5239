use Rattle.dbg_sites.proofs.ChainLemmas.{chain_of-equal}
use Rattle.dbg_sites.proofs.laws.equal_numbers_are_equal_chains.Goals as goal

pub returns : goal.returns
returns c = chain_of-equal
