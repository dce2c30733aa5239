use Rattle.std.specs.Global.{Vec}
use Rattle.std.proofs.Common.{ℕ, ◌≡◌, ◌^◌, ◌-◌, List, Option, length, sym, ap, subst, ◌∙◌}
use Rattle.std.proofs.lemmas.List.{length-map, length-replicate}
use Rattle.ir_core.specs.declared.refusals.Refusal.{Refusal}
use Rattle.ir_check_flow.specs.Spreading.{lists_of, AreOpen}
use Rattle.ir_check_flow.specs.Answering.{all_marked, come_fault, IsOpenAmong}
use Rattle.ir_check_flow.specs.First.{IsFirstOf}
use Rattle.ir_check_flow.proofs.Come.{first_come}
use Rattle.ir_check_flow.proofs.Marks.{marks_of, same_length}
use Rattle.ir_check_flow.proofs.OpenOnes.{come_is_open}
use Rattle.ir_check_flow.proofs.Spread.{zeros}
use Rattle.ir_check_flow.proofs.answering.part_fault.Goals as goal

pub spread-requires-clause-same : goal.spread-requires-clause-same
spread-requires-clause-same c =
    ap (λ (list : List ℕ). length list) (c.deref.ensures.value ∙ c.in_ok-answered.ensures)
    ∙ same_length (zeros (length c.args.ways.now)) 0 c.args.questions.now ∙ length-replicate (length c.args.ways.now) 0

pub returns : goal.returns
returns c =
    let same : length (lists_of c.args.ways.now) ≡ length c.args.ways.now = length-map c.args.ways.now (λ (v : Vec ℕ). v.items) in
    let marks : c.deref.result.now ≡ marks_of (length (lists_of c.args.ways.now)) c.args.questions.now =
    c.deref.ensures.value ∙ c.in_ok-answered.ensures ∙ ap (λ (n : ℕ). all_marked (zeros n) 0 c.args.questions.now) (sym same) in
    let all : AreOpen (lists_of c.args.ways.now) (marks_of (length (lists_of c.args.ways.now)) c.args.questions.now) (2 ^ 128 - 1) c.in_ok-reach.reach.items =
    subst (λ (list : List ℕ). AreOpen (lists_of c.args.ways.now) list (2 ^ 128 - 1) c.in_ok-reach.reach.items) marks c.in_ok-reach.ensures in
    subst (λ (f : Option Refusal). IsFirstOf (IsOpenAmong (lists_of c.args.ways.now) c.args.questions.now) f)
    (sym (c.come_fault-found.ensures ∙ ap (λ (list : List ℕ). come_fault list 0 c.args.questions.now) c.deref-2.ensures.value))
    (come_is_open (lists_of c.args.ways.now) c.args.questions.now c.in_ok-reach.reach.items (come_fault c.in_ok-reach.reach.items 0 c.args.questions.now) c.requires.few all
    (first_come c.in_ok-reach.reach.items 0 c.args.questions.now))
