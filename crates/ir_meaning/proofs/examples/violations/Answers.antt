use Rattle.std.proofs.Common.{refl}
use Rattle.ir_meaning.specs.Shown.{shown_end, shown_life}
use Rattle.ir_meaning.proofs.examples.violations.Goals as goal

pub returns-clause-heap_overflow : goal.returns-clause-heap_overflow
unfolding shown_end
returns-clause-heap_overflow c = refl

pub returns-clause-use_after_free : goal.returns-clause-use_after_free
unfolding shown_end
returns-clause-use_after_free c = refl

pub returns-clause-block_died : goal.returns-clause-block_died
unfolding shown_life
returns-clause-block_died c = refl

pub returns-clause-use_after_return : goal.returns-clause-use_after_return
unfolding shown_end
returns-clause-use_after_return c = refl

pub returns-clause-variable_died : goal.returns-clause-variable_died
unfolding shown_life
returns-clause-variable_died c = refl

pub returns-clause-write_before_a_block : goal.returns-clause-write_before_a_block
unfolding shown_end
returns-clause-write_before_a_block c = refl
