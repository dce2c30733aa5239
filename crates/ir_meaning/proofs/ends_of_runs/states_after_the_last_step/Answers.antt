use Rattle.std.proofs.Common.{refl}
use Rattle.ir_meaning.specs.Shown.{shown_end, shown_life, shown_bytes, shown_news, shown_turns}
use Rattle.ir_meaning.proofs.ends_of_runs.states_after_the_last_step.Goals as goal

pub returns-clause-exit : goal.returns-clause-exit
unfolding shown_end shown_life shown_bytes shown_news shown_turns
returns-clause-exit c = refl

pub returns-clause-variable_died : goal.returns-clause-variable_died
unfolding shown_end shown_life shown_bytes shown_news shown_turns
returns-clause-variable_died c = refl

pub returns-clause-variable_without_bytes : goal.returns-clause-variable_without_bytes
unfolding shown_end shown_life shown_bytes shown_news shown_turns
returns-clause-variable_without_bytes c = refl

pub returns-clause-block_lives_on : goal.returns-clause-block_lives_on
unfolding shown_end shown_life shown_bytes shown_news shown_turns
returns-clause-block_lives_on c = refl

pub returns-clause-news : goal.returns-clause-news
unfolding shown_end shown_life shown_bytes shown_news shown_turns
returns-clause-news c = refl

pub returns-clause-turn_words : goal.returns-clause-turn_words
unfolding shown_end shown_life shown_bytes shown_news shown_turns
returns-clause-turn_words c = refl

pub returns-clause-turn_words_at_a_violation : goal.returns-clause-turn_words_at_a_violation
unfolding shown_end shown_life shown_bytes shown_news shown_turns
returns-clause-turn_words_at_a_violation c = refl

pub returns-clause-freed_block_without_bytes : goal.returns-clause-freed_block_without_bytes
unfolding shown_end shown_life shown_bytes shown_news shown_turns
returns-clause-freed_block_without_bytes c = refl
