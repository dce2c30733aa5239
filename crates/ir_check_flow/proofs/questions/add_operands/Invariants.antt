use Rattle.std.proofs.Common.{◌≡◌, ◌++◌, drop}
use Rattle.ir_check_flow.specs.Questions.{placed_questions}
use Rattle.ir_check_flow.proofs.questions.add_operands.Given as goal

abbrev pub invariant-loop-placed : goal.invariant-loop-placed
invariant-loop-placed l =
    l.found.items ++ placed_questions l.uses.f.now l.uses.homes.now l.block l.inst (drop l.placed-index l.operands)
    ≡ l.initial.found.items ++ placed_questions l.uses.f.now l.uses.homes.now l.block l.inst l.operands
