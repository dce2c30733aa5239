use Rattle.std.proofs.lemmas.List.{get_or-set_same, get_or-set_other, length-set}
use Rattle.ir_tasks.proofs.FrameLemmas.{with_register-past}
use Rattle.ir_tasks.proofs.laws.registers_keep_what_is_set.Goals as goal

pub returns-clause-same : goal.returns-clause-same
returns-clause-same c frame r n h = get_or-set_same frame.registers r n 0 h

pub returns-clause-other : goal.returns-clause-other
returns-clause-other c frame r other n h = get_or-set_other frame.registers r other n 0 h

pub returns-clause-count : goal.returns-clause-count
returns-clause-count c frame r n = length-set frame.registers r n

pub returns-clause-past_the_end : goal.returns-clause-past_the_end
returns-clause-past_the_end c = with_register-past
