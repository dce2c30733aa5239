use Rattle.std.proofs.Common.{rules}
use Rattle.hw_driver.specs.declared.command.TagWords.TheVariants as given
use Rattle.hw_driver.proofs.TagLists.{cycle_range, listed}
use Rattle.hw_driver.proofs.options.tag_words.Goals as goal

pub read_tag_list-requires : goal.read_tag_list-requires
read_tag_list-requires c = listed c.in-Some-List.text.now (c.requires (given.List c.in-Some-List.text) (search rules))

pub returns-in_ok-read_tag_list-in-Some-List-clause-range : goal.returns-in_ok-read_tag_list-in-Some-List-clause-range
returns-in_ok-read_tag_list-in-Some-List-clause-range c = cycle_range c.in-Some-List.text.now c.in_ok-read_tag_list-in-Some-List.field-0 c.in_ok-read_tag_list-in-Some-List.ensures
