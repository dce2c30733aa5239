use Rattle.std.proofs.Common.{◌≡◌, ◌++◌, drop}
use Rattle.ir_check_flow.specs.Questions.{phi_questions}
use Rattle.ir_check_flow.proofs.questions.add_entries.Given as goal

abbrev pub invariant-loop-entry : goal.invariant-loop-entry
invariant-loop-entry l =
    l.found.items ++ phi_questions l.uses.f.now l.uses.homes.now (drop l.entry-index l.entries)
    ≡ l.initial.found.items ++ phi_questions l.uses.f.now l.uses.homes.now l.entries
