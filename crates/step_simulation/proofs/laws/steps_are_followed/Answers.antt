use Rattle.step_simulation.proofs.EachStep.{every-step-followed}
use Rattle.step_simulation.proofs.laws.steps_are_followed.Goals as goal

pub returns : goal.returns
returns c setting t m is related = every-step-followed setting t m is related
