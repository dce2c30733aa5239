use Rattle.ir_grammar.proofs.kind_of.body_word.Goals as goal

pub returns : goal.returns
returns c = c.kind_in.ensures
