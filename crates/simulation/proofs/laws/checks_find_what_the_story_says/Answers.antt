use Rattle.simulation.proofs.ChecksAgree.{checks-judged}
use Rattle.simulation.proofs.FreesAgree.{frees-judged}
use Rattle.simulation.proofs.laws.checks_find_what_the_story_says.Goals as goal

pub returns-clause-accesses : goal.returns-clause-accesses
returns-clause-accesses c setting t m number size related = checks-judged setting t m related number size

pub returns-clause-frees : goal.returns-clause-frees
returns-clause-frees c setting t m number related = frees-judged setting t m related number
