use Rattle.std.proofs.Common.{◌∙◌}
use Rattle.hw_tags.proofs.WordLemmas.{coming_zero, AreWordsFrom_step}
use Rattle.hw_tags.proofs.words.Words.next.Goals as goal

pub returns-clause-word : goal.returns-clause-word
returns-clause-word c = λ spec i from. c.next.ensures.first ∙ coming_zero spec i _ from

pub returns-clause-next : goal.returns-clause-next
returns-clause-next c = λ spec i from. AreWordsFrom_step spec i _ _ c.next.ensures.rest from
