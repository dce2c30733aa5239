use Rattle.ir_tasks.proofs.TaskLemmas.{AreTasks-none}
use Rattle.ir_tasks.proofs.tasks.Tasks.new.Goals as goal

pub invariant_of-result : goal.invariant_of-result
invariant_of-result c = rw c.new.ensures.items AreTasks-none
