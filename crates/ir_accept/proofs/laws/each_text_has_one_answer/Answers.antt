use Rattle.ir_accept.proofs.OneAnswer.{one_module, never_both, one_fault}
use Rattle.ir_accept.proofs.laws.each_text_has_one_answer.Goals as goal

pub returns-clause-one_module : goal.returns-clause-one_module
returns-clause-one_module c = one_module

pub returns-clause-never_both : goal.returns-clause-never_both
returns-clause-never_both c = never_both

pub returns-clause-one_fault : goal.returns-clause-one_fault
returns-clause-one_fault c = one_fault
