use Rattle.free_ring.proofs.Pushes.{after_pushes-kept, after_pushes-size}
use Rattle.free_ring.proofs.laws.the_last_records_are_kept.Goals as goal

pub returns-clause-kept : goal.returns-clause-kept
returns-clause-kept g c = after_pushes-kept

pub returns-clause-size : goal.returns-clause-size
returns-clause-size g c = after_pushes-size
