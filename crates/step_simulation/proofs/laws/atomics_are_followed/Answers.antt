use Rattle.step_simulation.proofs.AtomicFollows.{each-rmw-followed, each-cmpxchg-followed}
use Rattle.step_simulation.proofs.laws.atomics_are_followed.Goals as goal

pub returns-clause-updates : goal.returns-clause-updates
returns-clause-updates c setting t m f inst kind at value align is here same related =
    each-rmw-followed setting t m f inst kind at value align is here same related

pub returns-clause-exchanges : goal.returns-clause-exchanges
returns-clause-exchanges c setting t m f inst at expected new align is here same related =
    each-cmpxchg-followed setting t m f inst at expected new align is here same related
