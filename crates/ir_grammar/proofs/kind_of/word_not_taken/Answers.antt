use Rattle.ir_grammar.proofs.kind_of.word_not_taken.Goals as goal

pub returns : goal.returns
returns c = c.kind_in.ensures
