use Rattle.step_simulation.proofs.RegisterSteps.{register_step-followed}
use Rattle.step_simulation.proofs.laws.register_steps_are_followed.Goals as goal

pub returns : goal.returns
returns c setting t m f inst is at own related = register_step-followed setting t m f inst is at own related
