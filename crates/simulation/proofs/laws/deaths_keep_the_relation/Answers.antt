use Rattle.simulation.proofs.BothSidesLive.{block-death, frame-death}
use Rattle.simulation.proofs.laws.deaths_keep_the_relation.Goals as goal

pub returns-clause-blocks : goal.returns-clause-blocks
returns-clause-blocks c setting t m task number i chain block is related known listed =
    block-death setting t m is related task chain number known i block listed

pub returns-clause-frames : goal.returns-clause-frames
returns-clause-frames c setting t m task number chain frames newest older is related known there living =
    frame-death setting t m is related task chain number known frames there newest older living
