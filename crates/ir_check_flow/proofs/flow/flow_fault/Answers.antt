use Rattle.std.proofs.Common.{◌≡◌, ◌+◌, ◌<◌, List, take, length, sym, ap, subst, arith}
use Rattle.ir_core.specs.declared.ir_module.Function.{Function}
use Rattle.ir_check_types.specs.Order.{earlier}
use Rattle.ir_check_flow.specs.Check.{IsAmong, IsFlowFaultOf}
use Rattle.ir_check_flow.specs.First.{IsFirstOf}
use Rattle.ir_check_flow.proofs.AmongAll.{next_thing, all_things}
use Rattle.ir_check_flow.proofs.flow.flow_fault.Goals as goal

pub loop-f-preserved : goal.loop-f-preserved
loop-f-preserved c =
    let there : c.loop-f.f-index < length c.as_slice-f-items.result.now = omega arith in
    rw c.earlier-first.ensures
    (subst (λ (fs : List Function). IsFirstOf (IsAmong IsFlowFaultOf (take (c.loop-f.f-index + 1) fs)) (earlier c.loop-f.first c.in_ok-found.found)) c.as_slice-f-items.ensures
    (next_thing IsFlowFaultOf c.as_slice-f-items.result.now c.loop-f.f-index c.f-item.result c.loop-f.first c.in_ok-found.found there c.f-item.is
    (subst (λ (fs : List Function). IsFirstOf (IsAmong IsFlowFaultOf (take c.loop-f.f-index fs)) c.loop-f.first) (sym c.as_slice-f-items.ensures) c.loop-f.invariant)
    c.in_ok-found.ensures))

pub returns : goal.returns
returns c =
    let items : length c.as_slice-f-items.result.now ≡ length c.args.m.now.functions = ap (λ (l : List Function). length l) c.as_slice-f-items.ensures in
    let whole : c.loop-f.f-index ≡ length c.args.m.now.functions = omega arith in
    all_things IsFlowFaultOf c.loop-f.f-index c.args.m.now.functions c.loop-f.first whole c.loop-f.invariant
