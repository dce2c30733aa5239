use Rattle.std.specs.Global.{Vec}
use Rattle.std.proofs.Common.{ℕ, ◌≡◌, List, length, sym, ap, subst, ◌∙◌}
use Rattle.std.proofs.lemmas.List.{length-map}
use Rattle.ir_check_flow.specs.declared.question.Question.{Question}
use Rattle.ir_check_flow.specs.Answering.{IsOpenAmong}
use Rattle.ir_check_flow.specs.First.{IsFirstOf}
use Rattle.ir_check_flow.specs.Questions.{questions_of}
use Rattle.ir_check_flow.specs.Spreading.{lists_of, AreWays}
use Rattle.ir_check_flow.specs.Ways.{ways_of}
use Rattle.ir_check_flow.proofs.UsesFound.{open_is_undefined}
use Rattle.ir_check_flow.proofs.WaysInside.{ways_inside, ways_length}
use Rattle.ir_check_flow.proofs.uses.undefined_use.Goals as goal

pub open_fault-requires-clause-inside : goal.open_fault-requires-clause-inside
open_fault-requires-clause-inside c =
    let e : lists_of c.deref.result.now ≡ ways_of c.args.f.now = ap lists_of c.deref.ensures.value ∙ c.in_ok-ways.ensures in
    let n : length c.deref.result.now ≡ length c.args.f.now.blocks =
    sym (length-map c.deref.result.now (λ (v : Vec ℕ). v.items)) ∙ ap (λ (list : List (List ℕ)). length list) e ∙ ways_length c.args.f.now in
    subst (λ (w : List (List ℕ)). AreWays (length c.deref.result.now) w) (sym e) (ways_inside c.args.m.now c.args.f.now (length c.deref.result.now) c.requires n)

pub returns : goal.returns
returns c =
    let e : lists_of c.deref.result.now ≡ ways_of c.args.f.now = ap lists_of c.deref.ensures.value ∙ c.in_ok-ways.ensures in
    let q : c.deref-2.result.now ≡ questions_of c.args.f.now = c.deref-2.ensures.value ∙ c.in_ok-questions.ensures in
    open_is_undefined c.args.m.now c.args.f.now c.in_ok-found.found c.requires
    (subst (λ (w : List (List ℕ)). IsFirstOf (IsOpenAmong w (questions_of c.args.f.now)) c.in_ok-found.found) e
    (subst (λ (list : List Question). IsFirstOf (IsOpenAmong (lists_of c.deref.result.now) list) c.in_ok-found.found) q c.in_ok-found.ensures))
