use Rattle.dbg_sites.proofs.ScopeChains.{scopes_within, calls_within}
use Rattle.dbg_sites.proofs.laws.chains_end_within_the_nodes.Goals as goal

pub returns-clause-scopes : goal.returns-clause-scopes
returns-clause-scopes c = scopes_within

pub returns-clause-calls : goal.returns-clause-calls
returns-clause-calls c = calls_within
