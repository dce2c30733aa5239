use Rattle.std.proofs.Common.{◌∙◌, sym}
use Rattle.hw_driver.proofs.Numerals.{result_ok-parse_number}
use Rattle.hw_driver.proofs.words.number_of.Goals as goal

pub returns : goal.returns
returns c = c.ok.ensures.value ∙ result_ok-parse_number c.args.text.now c.parse.result (sym c.is_number.ensures ∙ c.if-not-is_number.false) c.parse.ensures.value.0
