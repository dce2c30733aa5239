use Rattle.std.proofs.Common.{◌≡◌, ◌+◌, ◌++◌, drop}
use Rattle.ir_check_flow.specs.Questions.{questions_in}
use Rattle.ir_check_flow.proofs.questions.add_insts.Given as goal

abbrev pub invariant-loop-i : goal.invariant-loop-i
invariant-loop-i l =
    l.found.items ++ questions_in l.uses.f.now l.uses.homes.now l.block (l.first + l.i) (drop l.i l.insts)
    ≡ l.initial.found.items ++ questions_in l.uses.f.now l.uses.homes.now l.block l.first l.insts
