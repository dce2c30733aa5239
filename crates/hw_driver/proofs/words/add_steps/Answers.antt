use Rattle.std.proofs.Common.{Some}
use Rattle.hw_driver.proofs.GivenRanges.{given-range}
use Rattle.hw_driver.proofs.words.add_steps.Goals as goal

pub returns-in_ok-step_bound-in-None-clause-range : goal.returns-in_ok-step_bound-in-None-clause-range
returns-in_ok-step_bound-in-None-clause-range c x same =
    let given = c.args.given in
    given-range (record { tags = given.tags; steps = Some c.in_ok-step_bound-in-None.field-0; ring = given.ring; heap = given.heap }) x
    (record { tags = c.requires.tags; steps = c.in_ok-step_bound-in-None.ensures.range; ring = c.requires.ring; heap = c.requires.heap }) same
