use Rattle.dbg_sites.proofs.ChainLemmas.{pushed-front, pushed-earlier, pushed-within, pushed-table, empty_table}
use Rattle.dbg_sites.proofs.laws.pushing_puts_a_site_in_front.Goals as goal

pub returns-clause-front : goal.returns-clause-front
returns-clause-front c = pushed-front

pub returns-clause-earlier : goal.returns-clause-earlier
returns-clause-earlier c = pushed-earlier

pub returns-clause-within : goal.returns-clause-within
returns-clause-within c = pushed-within

pub returns-clause-table : goal.returns-clause-table
returns-clause-table c = pushed-table

pub returns-clause-start : goal.returns-clause-start
returns-clause-start c = empty_table
