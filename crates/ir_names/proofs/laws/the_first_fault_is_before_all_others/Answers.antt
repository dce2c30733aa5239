use Rattle.ir_names.proofs.First.{first_among, none_before, none_of_none}
use Rattle.ir_names.proofs.laws.the_first_fault_is_before_all_others.Goals as goal

pub returns-clause-among : goal.returns-clause-among
returns-clause-among c = first_among

pub returns-clause-first : goal.returns-clause-first
returns-clause-first c = none_before

pub returns-clause-none : goal.returns-clause-none
returns-clause-none c = none_of_none
