use Rattle.std.specs.Global.{Vec}
use Rattle.std.proofs.Common.{ℕ, ◌<◌, ◌≡◌, List, length, sym, ap, subst, ◌∙◌}
use Rattle.std.specs.List.{All}
use Rattle.ir_check_flow.specs.Spreading.{lists_of, AreWays}
use Rattle.ir_check_flow.proofs.Spread.{targets_inside}
use Rattle.ir_check_flow.proofs.predecessors.add_all.Goals as goal

pub add_predecessors-requires : goal.add_predecessors-requires
add_predecessors-requires c =
    let same : length c.args.lists.now ≡ length c.loop-from.lists = sym c.loop-from.auto.lists in
    let inside : AreWays (length c.loop-from.lists) (lists_of c.args.ways.now) = subst (λ (n : ℕ). AreWays n (lists_of c.args.ways.now)) same c.requires in
    subst (λ (list : List ℕ). All (λ to. to < length c.loop-from.lists) list)
    (sym (c.deref.ensures.value ∙ ap (λ (v : Vec ℕ). v.items) c.index-ways-from.is))
    (targets_inside c.args.ways.now (length c.loop-from.lists) c.loop-from.from c.index-ways-from.result c.loop-from-test.true inside)
