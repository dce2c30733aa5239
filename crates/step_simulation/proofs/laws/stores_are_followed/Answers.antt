use Rattle.step_simulation.proofs.StoreFollows.{each-store-followed}
use Rattle.step_simulation.proofs.laws.stores_are_followed.Goals as goal

pub returns : goal.returns
returns c setting t m f inst value at align is here same related =
    each-store-followed setting t m f inst value at align is here same related
