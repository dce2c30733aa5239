use Rattle.hw_driver.proofs.WholeLines.{Decides-lines}
use Rattle.hw_driver.proofs.top.answer.Goals as goal

pub returns-clause-lines : goal.returns-clause-lines
returns-clause-lines g c = c.deliver.ensures.lines (Decides-lines _ _ _ c.decide-decision.ensures)
