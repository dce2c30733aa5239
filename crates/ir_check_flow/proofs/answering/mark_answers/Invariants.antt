use Rattle.std.proofs.Common.{◌≡◌, drop}
use Rattle.ir_check_flow.specs.Answering.{all_marked}
use Rattle.ir_check_flow.proofs.answering.mark_answers.Given as goal

abbrev pub invariant-loop-k : goal.invariant-loop-k
invariant-loop-k l = all_marked l.answered l.k (drop l.k l.questions) ≡ all_marked l.initial.answered 0 l.questions
