use Rattle.simulation.proofs.FineFrees.{fine-passed}
use Rattle.simulation.proofs.FinePasses.{fine-passes}
use Rattle.simulation.proofs.laws.no_fine_access_is_refused.Goals as goal

pub returns-clause-accesses : goal.returns-clause-accesses
returns-clause-accesses c setting objects w access base off count align is laid told other fine =
    fine-passes setting objects w is laid told access base off count align other fine

pub returns-clause-frees : goal.returns-clause-frees
returns-clause-frees c setting objects w base off count align is laid told fine =
    fine-passed setting objects w is laid told base off count align fine
