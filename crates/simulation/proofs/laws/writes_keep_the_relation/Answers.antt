use Rattle.simulation.proofs.WriteAllowed.{fine-written, constant-written, write-kept}
use Rattle.simulation.proofs.laws.writes_keep_the_relation.Goals as goal

pub returns-clause-taken : goal.returns-clause-taken
returns-clause-taken c setting t m base off align numbers is related fine =
    fine-written setting t m is related base off align numbers fine

pub returns-clause-related : goal.returns-clause-related
returns-clause-related c setting t m base off align bytes is related fine known =
    write-kept setting t m is related base off align bytes fine known

pub returns-clause-constants : goal.returns-clause-constants
returns-clause-constants c setting t m base off align numbers is related constant =
    constant-written setting t m is related base off align numbers constant
