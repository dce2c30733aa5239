use Rattle.step_simulation.proofs.PointerLoads.{each-load-followed}
use Rattle.step_simulation.proofs.laws.loads_are_followed.Goals as goal

pub returns : goal.returns
returns c setting t m f inst ty align at is here same related =
    each-load-followed setting t m f inst ty align at is here same related
