use Rattle.tag_alloc.proofs.HeapBlockLemmas.{with_block-born, with_block-stays, with_block-no_other, without_block-dead, without_block-stays}
use Rattle.tag_alloc.proofs.laws.the_table_of_blocks.Goals as goal

pub returns-clause-born : goal.returns-clause-born
returns-clause-born c = with_block-born

pub returns-clause-stays : goal.returns-clause-stays
returns-clause-stays c = with_block-stays

pub returns-clause-no_other : goal.returns-clause-no_other
returns-clause-no_other c = with_block-no_other

pub returns-clause-dead : goal.returns-clause-dead
returns-clause-dead c = without_block-dead

pub returns-clause-others_stay : goal.returns-clause-others_stay
returns-clause-others_stay c = without_block-stays
