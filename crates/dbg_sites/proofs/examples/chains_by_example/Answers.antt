use Rattle.std.proofs.Common.{refl}
use Rattle.dbg_sites.specs.ChainTable.{entry_from, pushed, chain_within}
use Rattle.dbg_sites.proofs.examples.chains_by_example.Goals as goal

pub returns-clause-first : goal.returns-clause-first
unfolding entry_from pushed chain_within
returns-clause-first c = refl

pub returns-clause-second : goal.returns-clause-second
unfolding entry_from pushed chain_within
returns-clause-second c = refl

pub returns-clause-again : goal.returns-clause-again
unfolding entry_from pushed chain_within
returns-clause-again c = refl
