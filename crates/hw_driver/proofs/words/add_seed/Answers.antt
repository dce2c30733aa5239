use Rattle.std.proofs.Common.{Some}
use Rattle.hw_driver.specs.declared.command.TagWords.TheVariants.{Seed}
use Rattle.hw_driver.proofs.GivenRanges.{given-range, has-tags, some-seed}
use Rattle.hw_driver.proofs.words.add_seed.Goals as goal

pub returns-in_ok-number_of-in-None-clause-range : goal.returns-in_ok-number_of-in-None-clause-range
returns-in_ok-number_of-in-None-clause-range c x same =
    let given = c.args.given in
    let words = Seed c.in_ok-number_of-in-None.field-0 in
    given-range (record { tags = Some words; steps = given.steps; ring = given.ring; heap = given.heap }) x
    (record { tags = has-tags words (some-seed c.in_ok-number_of-in-None.field-0); steps = c.requires.steps; ring = c.requires.ring; heap = c.requires.heap }) same
