use Rattle.std.specs.Global.{Vec}
use Rattle.std.proofs.Common.{ℕ, ◌<◌, List, length, sym, ap, subst, ◌∙◌, arith}
use Rattle.std.specs.List.{All}
use Rattle.ir_check_flow.proofs.Spread.{targets_inside}
use Rattle.ir_check_flow.proofs.spreading.spread_from.Goals as goal

pub reach_all-requires : goal.reach_all-requires
reach_all-requires c =
    let there : c.args.from < length c.args.ways.now = omega arith in
    subst (λ (list : List ℕ). All (λ to. to < length c.args.reach.now) list)
    (sym (c.deref.ensures.value ∙ ap (λ (v : Vec ℕ). v.items) c.index-ways-from.is))
    (targets_inside c.args.ways.now (length c.args.reach.now) c.args.from c.index-ways-from.result there c.requires.inside)
