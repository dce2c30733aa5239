use Rattle.std.proofs.Common.{◌≡◌, [], ap, sym, ◌∙◌, arith}
use Rattle.std.proofs.lemmas.List.{append-nil, nil_from_length}
use Rattle.ir_tasks.specs.CallStacks.{Calls}
use Rattle.ir_tasks.proofs.CallStackLemmas.{callers-before, callers-none}
use Rattle.ir_tasks.proofs.call_stack.CallStack.end_call.Goals as goal

pub returns-in-Some-clause-caller : goal.returns-in-Some-clause-caller
returns-in-Some-clause-caller c ran =
    let s = c.self.inside in
    let before = callers-before s.registers.items s.newest c.in-Some.caller c.pop.new.self.items s.older.items c.in-Some.ensures.items in
    let seen = ap (λ (calls : Calls). calls.callers) c.self.view_is in
    rw c.truncate.ensures.items (sym seen ∙ before)

pub returns-in-None-clause-last : goal.returns-in-None-clause-last
returns-in-None-clause-last c ran =
    let s = c.self.inside in
    let same : s.older.items ≡ c.pop.new.self.items = c.in-None.ensures.items ∙ append-nil c.pop.new.self.items in
    let none : s.older.items ≡ [] = nil_from_length s.older.items (omega (arith, c.in-None.ensures.cases.0, s.older.ok.0)) in
    let seen = ap (λ (calls : Calls). calls.callers) c.self.view_is in
    (sym seen ∙ callers-none s.registers.items s.newest s.older.items none, rw (← same) c.self.view_is)
