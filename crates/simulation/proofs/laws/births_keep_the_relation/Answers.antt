use Rattle.std.proofs.Common.{length}
use Rattle.simulation.proofs.BothSidesLive.{block-birth, frame-birth}
use Rattle.simulation.proofs.ChainsRelated.{chains-related}
use Rattle.simulation.proofs.laws.births_keep_the_relation.Goals as goal

pub returns-clause-chains : goal.returns-clause-chains
returns-clause-chains c setting t m table chains is_table related = chains-related setting t m table chains is_table related

pub returns-clause-blocks : goal.returns-clause-blocks
returns-clause-blocks c setting t m task size number chain is related known =
    block-birth setting t m is related task chain number known size (length t.source.births)

pub returns-clause-frames : goal.returns-clause-frames
returns-clause-frames c setting t m task func number chain sizes frames is related known there few =
    frame-birth setting t m is related task chain number known frames there few func sizes (length t.source.births)
