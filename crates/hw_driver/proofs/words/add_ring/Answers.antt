use Rattle.std.proofs.Common.{Some}
use Rattle.hw_driver.proofs.GivenRanges.{given-range}
use Rattle.hw_driver.proofs.words.add_ring.Goals as goal

pub returns-in_ok-ring_size-in-None-clause-range : goal.returns-in_ok-ring_size-in-None-clause-range
returns-in_ok-ring_size-in-None-clause-range c x same =
    let given = c.args.given in
    given-range (record { tags = given.tags; steps = given.steps; ring = Some c.in_ok-ring_size-in-None.field-0; heap = given.heap }) x
    (record { tags = c.requires.tags; steps = c.requires.steps; ring = c.in_ok-ring_size-in-None.ensures.range; heap = c.requires.heap }) same
