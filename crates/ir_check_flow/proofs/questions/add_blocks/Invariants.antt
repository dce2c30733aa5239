use Rattle.std.proofs.Common.{◌≡◌, ◌++◌, drop}
use Rattle.ir_check_flow.specs.Questions.{questions_from}
use Rattle.ir_check_flow.proofs.questions.add_blocks.Given as goal

abbrev pub invariant-loop-b : goal.invariant-loop-b
invariant-loop-b l =
    l.found.items ++ questions_from l.uses.f.now l.uses.homes.now l.b (drop l.b l.blocks)
    ≡ l.initial.found.items ++ questions_from l.uses.f.now l.uses.homes.now 0 l.blocks
