use Rattle.hw_driver.specs.Answer.{read_of}
use Rattle.hw_driver.proofs.Causes.{Answers-cause, Answers-rises}
use Rattle.hw_driver.proofs.ClosingBytes.{Answers-closes}
use Rattle.hw_driver.proofs.Exactness.{Answers-exact, judged-module}
use Rattle.hw_driver.proofs.FileReads.{Answers-reads}
use Rattle.hw_driver.proofs.top.hwasan.Goals as goal

pub returns-clause-reads : goal.returns-clause-reads
returns-clause-reads g c = Answers-reads _ _ _ _ _ c.answer.ensures.answers

pub returns-clause-cause : goal.returns-clause-cause
returns-clause-cause g c = Answers-cause _ _ _ _ _ c.answer.ensures.answers

pub returns-clause-rises : goal.returns-clause-rises
returns-clause-rises g c = Answers-rises _ _ _ _ _ c.answer.ensures.answers

pub returns-clause-exact : goal.returns-clause-exact
returns-clause-exact g c = Answers-exact _ _ _ _ _ c.answer.ensures.answers

pub returns-clause-closing : goal.returns-clause-closing
returns-clause-closing g c = Answers-closes _ _ _ _ _ c.answer.ensures.answers

pub returns-clause-detects : goal.returns-clause-detects
returns-clause-detects g c = λ l bytes some told quiet.
    judged-module l (read_of bytes) _ _ _ ((Answers-exact _ _ _ _ _ c.answer.ensures.answers quiet).judged l bytes some told)
