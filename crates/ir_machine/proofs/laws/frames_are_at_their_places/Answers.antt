use Rattle.std.proofs.Common.{refl, subst}
use Rattle.ir_machine.specs.Runs.{setting_of}
use Rattle.ir_machine.specs.State.{MachineWorldStep}
use Rattle.ir_machine.proofs.WorldPlaces.{StepHasPlaces, start-places, world-places}
use Rattle.ir_machine.proofs.laws.frames_are_at_their_places.Goals as goal

pub returns-clause-start : goal.returns-clause-start
returns-clause-start c program options input first report runnable same =
    subst (λ (step : MachineWorldStep). StepHasPlaces program step) same (start-places program runnable (setting_of program options input) refl refl)

pub returns-clause-step : goal.returns-clause-step
returns-clause-step c program options input turns world next report runnable places same =
    subst (λ (step : MachineWorldStep). StepHasPlaces program step) same (world-places program runnable (setting_of program options input) refl turns world places)
