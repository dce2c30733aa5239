use Rattle.std.proofs.Common.{Bool, Option, sym, ap, subst, ◌∙◌}
use Rattle.std.specs.List.{Contains}
use Rattle.ir_core.specs.declared.faults.Fault.TheVariants.{BadPhi}
use Rattle.ir_core.specs.declared.refusals.Refusal.{Refusal}
use Rattle.ir_check_types.specs.Order.{unless}
use Rattle.ir_check_flow.specs.First.{IsFirstOf}
use Rattle.ir_check_flow.specs.Phis.{IsBadPhiWith}
use Rattle.ir_check_flow.proofs.BadPhisFound.{entries_refused}
use Rattle.ir_check_flow.proofs.bad_phis.entries_fault.Goals as goal

pub returns : goal.returns
returns c =
    subst (λ (f : Option Refusal). IsFirstOf (IsBadPhiWith (Contains c.args.predecessors.now) c.args.placed c.args.entries.now c.args.place) f)
    (sym (c.unless.ensures ∙ ap (λ (b : Bool). unless b BadPhi c.args.place) c.all_hold-holds.ensures))
    (entries_refused (Contains c.args.predecessors.now) c.args.placed c.in_ok-good.good c.args.entries.now c.args.place c.in_ok-good.ensures)
