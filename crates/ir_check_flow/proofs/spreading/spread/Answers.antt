use Rattle.std.specs.Global.{Vec}
use Rattle.std.proofs.Common.{ℕ, ◌<◌, ◌≡◌, List, [], ◌∷◌, ◌++◌, ◌^◌, length, get_or, refl, sym, ap, subst, ◌∙◌, arith}
use Rattle.std.proofs.Math.ListN.{set}
use Rattle.std.proofs.lemmas.List.{length-map, nil_from_length}
use Rattle.ir_check_flow.specs.Spreading.{lists_of, without, IsSpreading, AreReached, AreWays}
use Rattle.ir_check_flow.proofs.Spread.{zeros, at_first, spread_more, all_open, written_back}
use Rattle.ir_check_flow.proofs.spreading.spread.Goals as goal

pub loop-next-init : goal.loop-next-init
loop-next-init c =
    let same : length (lists_of c.args.ways.now) ≡ length c.args.ways.now = length-map c.args.ways.now (λ (v : Vec ℕ). v.items) in
    let some : 0 < length (lists_of c.args.ways.now) = omega arith in
    let reach : c.in_ok-reach.reach.items ≡ zeros (length (lists_of c.args.ways.now)) = c.in_ok-reach.ensures.items_if_clones_equal (λ y e. e) ∙ ap zeros (sym same) in
    let work : c.push.new.self.items ≡ 0 ∷ [] = c.in_ok-push.ensures.items ∙ ap (λ (list : List ℕ). list ++ 0 ∷ []) c.new-work.ensures.items in
    subst (λ (list : List ℕ). IsSpreading (lists_of c.args.ways.now) c.args.answered.now c.args.asked (set list 0 c.args.asked) c.push.new.self.items) (sym reach)
    (subst (λ (list : List ℕ). IsSpreading (lists_of c.args.ways.now) c.args.answered.now c.args.asked (set (zeros (length (lists_of c.args.ways.now))) 0 c.args.asked) list) (sym work)
    (at_first (lists_of c.args.ways.now) c.args.answered.now c.args.asked some))

pub loop-next-preserved : goal.loop-next-preserved
loop-next-preserved c =
    let same : length (lists_of c.args.ways.now) ≡ length c.args.ways.now = length-map c.args.ways.now (λ (v : Vec ℕ). v.items) in
    let inside : AreWays (length (lists_of c.args.ways.now)) (lists_of c.args.ways.now) =
    subst (λ (n : ℕ). AreWays n (lists_of c.args.ways.now)) (sym same) c.requires.inside in
    let back : length c.spread_from.new.reach ≡ c.loop-next.reach.len = omega arith in
    let small : get_or c.args.answered.now c.in-Some.next 0 < 2 ^ 128 = omega (arith, c.type_inv.answered c.in-Some.next) in
    let reached = c.in_ok-spread_from.ensures in
    subst (λ (list : List ℕ). IsSpreading (lists_of c.args.ways.now) c.args.answered.now c.args.asked list c.spread_from.new.work.items)
    (sym (written_back c.loop-next.reach.len c.spread_from.new.reach c.loop-next.reach.items back))
    (spread_more (lists_of c.args.ways.now) c.args.answered.now c.args.asked c.in-Some.next _ c.loop-next.reach.items c.pop.new.self.items c.loop-next.work.items
    c.spread_from.new.reach c.spread_from.new.work.items c.loop-next.invariant c.in-Some.ensures.items inside small refl
    (subst (λ (list : List ℕ). AreReached (get_or (lists_of c.args.ways.now) c.in-Some.next []) (without (get_or list c.in-Some.next 0) (get_or c.args.answered.now c.in-Some.next 0)) list c.pop.new.self.items c.spread_from.new.reach c.spread_from.new.work.items)
    c.as_mut_slice.ensures.value reached))

pub returns : goal.returns
returns c =
    let none : c.loop-next.work.items ≡ [] = nil_from_length c.loop-next.work.items (omega (arith, c.in_default.ensures.cases.0)) in
    all_open (lists_of c.args.ways.now) c.args.answered.now c.args.asked c.loop-next.reach.items
    (subst (λ (list : List ℕ). IsSpreading (lists_of c.args.ways.now) c.args.answered.now c.args.asked c.loop-next.reach.items list) none c.loop-next.invariant)
