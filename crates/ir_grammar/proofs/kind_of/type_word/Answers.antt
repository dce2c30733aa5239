use Rattle.ir_grammar.proofs.kind_of.type_word.Goals as goal

pub returns : goal.returns
returns c = c.kind_in.ensures
