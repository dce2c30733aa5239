use Rattle.std.proofs.lemmas.List.Elements.{Contains-get_or}
use Rattle.std.proofs.Math.Nat.{mod-lt}
use Rattle.hw_tags.proofs.turns.next_task_is_unfinished.Goals as goal

pub returns-clause-unfinished : goal.returns-clause-unfinished
returns-clause-unfinished c = λ tasks x some. Contains-get_or tasks _ 0 (mod-lt x some)
