use Rattle.ir_meaning.proofs.StartLaws.{source_start-has}
use Rattle.ir_meaning.proofs.laws.births_at_the_start.Goals as goal

pub returns : goal.returns
returns c = source_start-has
