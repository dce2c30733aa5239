use Rattle.std.specs.Global.{Vec}
use Rattle.std.proofs.Common.{ℕ, ◌≡◌, List, length, sym, ap, subst, ◌∙◌}
use Rattle.std.proofs.lemmas.List.{length-map}
use Rattle.ir_check_flow.specs.Spreading.{lists_of, AreWays}
use Rattle.ir_check_flow.specs.Ways.{ways_of}
use Rattle.ir_check_flow.proofs.WaysInside.{ways_inside, ways_length}
use Rattle.ir_check_flow.proofs.bad_phis.bad_phi.Goals as goal

pub predecessors_of-requires : goal.predecessors_of-requires
predecessors_of-requires c =
    let e : lists_of c.deref.result.now ≡ ways_of c.args.f.now = ap lists_of c.deref.ensures.value ∙ c.in_ok-ways.ensures in
    let n : length c.deref.result.now ≡ length c.args.f.now.blocks =
    sym (length-map c.deref.result.now (λ (v : Vec ℕ). v.items)) ∙ ap (λ (list : List (List ℕ)). length list) e ∙ ways_length c.args.f.now in
    subst (λ (w : List (List ℕ)). AreWays (length c.deref.result.now) w) (sym e) (ways_inside c.args.m.now c.args.f.now (length c.deref.result.now) c.requires n)
