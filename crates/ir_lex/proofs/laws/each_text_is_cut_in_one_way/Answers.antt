use Rattle.ir_lex.proofs.Cuts.{one_tokenisation, never_both, one_bad_place}
use Rattle.ir_lex.proofs.Wholes.{cut_or_bad, joined_is_text}
use Rattle.ir_lex.proofs.laws.each_text_is_cut_in_one_way.Goals as goal

pub returns-clause-one_tokenisation : goal.returns-clause-one_tokenisation
returns-clause-one_tokenisation c = one_tokenisation

pub returns-clause-one_bad_place : goal.returns-clause-one_bad_place
returns-clause-one_bad_place c = one_bad_place

pub returns-clause-never_both : goal.returns-clause-never_both
returns-clause-never_both c = never_both

pub returns-clause-one_of_them : goal.returns-clause-one_of_them
returns-clause-one_of_them c = cut_or_bad

pub returns-clause-nothing_lost : goal.returns-clause-nothing_lost
returns-clause-nothing_lost c = joined_is_text
