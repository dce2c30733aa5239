-- The two readings of a step's progress.
use Rattle.ir_machine.specs.declared.progress.Progress.{Progress}
use Rattle.ir_machine.specs.declared.progress.Progress.TheVariants.{Ran, Printed, Returned, Ended, NoMemory}
use Rattle.ir_machine.specs.State.{MachineOutcome}
use Rattle.ir_machine.specs.RunStates.{RunState, IsOutcome, IsPlainOutcome}

pub from_plain : (outcome : MachineOutcome) (progress : Progress) (v : RunState) → IsPlainOutcome outcome progress v → IsOutcome outcome progress v
from_plain outcome Ran v h = h
from_plain outcome Printed v h = h
from_plain outcome Returned v h = h
from_plain outcome Ended v h = h
from_plain outcome NoMemory v h = tt
