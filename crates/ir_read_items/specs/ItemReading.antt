-- What reading a text, its items with the bodies of its functions, returns.
use Rattle.std.specs.Prelude.{List, Result, Ok}
use Rattle.ir_grammar.specs.declared.terminal.Terminal.{Terminal}
use Rattle.ir_grammar.specs.declared.terminal.Flaw.{Flaw}
use Rattle.ir_grammar.specs.declared.terminal.Failure.{Failure}
use Rattle.ir_grammar.specs.declared.reader.Spellings.{Spellings}
use Rattle.ir_grammar.specs.Reading.{◌>>=◌}
use Rattle.ir_grammar.specs.Spelled.{Store, store_of}
use Rattle.ir_grammar.specs.Grammar.{Gives, read, nesting_limit}
use Rattle.ir_read_body.specs.BodyReading.{nothing_read}
use Rattle.ir_read_items.specs.Items.{module_rule}

-- the whole text read by the grammar: what it spells, or the flaw
abbrev pub spelled : List Terminal → Result Store Flaw
spelled tokens = read nesting_limit module_rule tokens nothing_read >>= λ x. Ok x.2

-- what the text spells, or its flaw, unless memory ran out
abbrev pub ReadsItems : List Terminal → Result Spellings Failure → Type 0
ReadsItems tokens result = Gives store_of result (spelled tokens)
