use Rattle.std.specs.Global.{Vec}
use Rattle.std.proofs.Common.{ℕ, ◌≡◌, ◌+◌, ◌<◌, List, [], take, length, get_or, sym, ap, subst, ◌∙◌, arith}
use Rattle.std.specs.List.{Contains}
use Rattle.ir_core.specs.declared.ir_module.Block.{Block}
use Rattle.ir_check_types.specs.Order.{earlier}
use Rattle.ir_check_flow.specs.First.{IsFirstOf}
use Rattle.ir_check_flow.specs.Phis.{IsBadAmong, predecessors_of}
use Rattle.ir_check_flow.specs.Ways.{ways_of, Leads}
use Rattle.ir_check_flow.proofs.BadPhisFound.{first_bad}
use Rattle.ir_check_flow.proofs.BlocksOfPhis.{leads_here, next_block, all_blocks, predecessors_count, predecessors_at, predecessors_inside}
use Rattle.ir_check_flow.proofs.WaysInside.{ways_length}
use Rattle.ir_check_flow.proofs.bad_phis.phis_by.Goals as goal

pub bounds-predecessors-b : goal.bounds-predecessors-b
bounds-predecessors-b c =
    let n = predecessors_count c.args.f.now c.args.predecessors.now c.requires.lists in
    let items : length c.as_slice-block-items.result.now ≡ length c.args.f.now.blocks = ap (λ (l : List Block). length l) c.as_slice-block-items.ensures in
    omega arith

pub block_phi-requires-clause-before : goal.block_phi-requires-clause-before
block_phi-requires-clause-before c =
    let n = predecessors_count c.args.f.now c.args.predecessors.now c.requires.lists in
    let items : length c.as_slice-block-items.result.now ≡ length c.args.f.now.blocks = ap (λ (l : List Block). length l) c.as_slice-block-items.ensures in
    let within : c.loop-b.b < length c.args.f.now.blocks = omega arith in
    let there : c.loop-b.b < length c.args.predecessors.now = omega arith in
    let list : c.deref.result.now ≡ get_or (predecessors_of (ways_of c.args.f.now)) c.loop-b.b [] =
    c.deref.ensures.value ∙ ap (λ (v : Vec ℕ). v.items) c.index-predecessors-b.is
    ∙ predecessors_at c.args.f.now c.args.predecessors.now c.loop-b.b c.index-predecessors-b.result c.requires.lists there in
    predecessors_inside c.args.f.now c.loop-b.b c.deref.result.now within list

pub loop-b-preserved : goal.loop-b-preserved
loop-b-preserved c =
    let n = predecessors_count c.args.f.now c.args.predecessors.now c.requires.lists in
    let items : length c.as_slice-block-items.result.now ≡ length c.args.f.now.blocks = ap (λ (l : List Block). length l) c.as_slice-block-items.ensures in
    let ways = ways_length c.args.f.now in
    let within : c.loop-b.b < length (ways_of c.args.f.now) = omega arith in
    let there : c.loop-b.b < length c.args.predecessors.now = omega arith in
    let here : c.loop-b.b < length c.as_slice-block-items.result.now = omega arith in
    let list : c.deref.result.now ≡ get_or (predecessors_of (ways_of c.args.f.now)) c.loop-b.b [] =
    c.deref.ensures.value ∙ ap (λ (v : Vec ℕ). v.items) c.index-predecessors-b.is
    ∙ predecessors_at c.args.f.now c.args.predecessors.now c.loop-b.b c.index-predecessors-b.result c.requires.lists there in
    rw c.earlier-first.ensures
    (subst (λ (blocks : List Block). IsFirstOf (IsBadAmong c.args.f.now (take (c.loop-b.b + 1) blocks)) (earlier c.loop-b.first c.in_ok-found.found)) c.as_slice-block-items.ensures
    (next_block c.args.f.now c.as_slice-block-items.result.now c.loop-b.b _ c.loop-b.first c.in_ok-found.found here
    (subst (λ (blocks : List Block). IsFirstOf (IsBadAmong c.args.f.now (take c.loop-b.b blocks)) c.loop-b.first) (sym c.as_slice-block-items.ensures) c.loop-b.invariant)
    (first_bad (Contains c.deref.result.now) (λ from. Leads (ways_of c.args.f.now) from c.loop-b.b) _ _ c.in_ok-found.found
    (leads_here c.args.f.now c.loop-b.b c.deref.result.now within list) c.in_ok-found.ensures)))

pub returns : goal.returns
returns c =
    let items : length c.as_slice-block-items.result.now ≡ length c.args.f.now.blocks = ap (λ (l : List Block). length l) c.as_slice-block-items.ensures in
    let whole : c.loop-b.b ≡ length c.args.f.now.blocks = omega arith in
    all_blocks c.args.f.now c.loop-b.b c.loop-b.first whole c.loop-b.invariant
