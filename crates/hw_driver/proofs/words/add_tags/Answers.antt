use Rattle.std.proofs.Common.{Some, sym, ◌∙◌}
use Rattle.hw_tags.specs.declared.words_spec.WordsSpec.TheVariants as spec
use Rattle.hw_driver.specs.Line.{tag_list}
use Rattle.hw_driver.specs.declared.command.TagWords.TheVariants.{List as Listed}
use Rattle.hw_driver.proofs.GivenRanges.{given-range, has-tags, mapped-some}
use Rattle.hw_driver.proofs.words.add_tags.Goals as goal

pub returns-else-not-is_tag_list-clause-range : goal.returns-else-not-is_tag_list-clause-range
returns-else-not-is_tag_list-clause-range c x same =
    let given = c.args.given in
    let words = Listed c.args.value in
    let some = mapped-some spec.Cycle (tag_list c.args.value.now) (sym c.is_tag_list.ensures ∙ c.if-not-is_tag_list.false) in
    given-range (record { tags = Some words; steps = given.steps; ring = given.ring; heap = given.heap }) x
    (record { tags = has-tags words some; steps = c.requires.steps; ring = c.requires.ring; heap = c.requires.heap }) same
