use Rattle.std.proofs.Common.{◌≡◌, true, false, sym, ap, ◌∙◌, subst}
use Rattle.std.specs.Prelude.{is_ok}
use Rattle.hw_base.specs.declared.accesses.Access.TheVariants.{Read, Write}
use Rattle.tbi_memory.specs.AddressSpace.{AddressSpace, read}
use Rattle.ir_machine.specs.RunStates.{RunState, IsOutcome}
use Rattle.ir_machine.specs.State.{MachineOutcome}
use Rattle.ir_machine.specs.StepEnds.{refused_at}
use Rattle.ir_machine.proofs.BlockSteps.{move-unread, move-unwritten}
use Rattle.ir_machine.proofs.Outcomes.{from_plain}
use Rattle.ir_machine.proofs.StepGrowth.{outcome-adds, refused-adds}
use Rattle.ir_machine.proofs.run.Run.not_moved.Goals as goal

pub returns-then-is_mapped-clause-step : goal.returns-then-is_mapped-clause-step
returns-then-is_mapped-clause-step c go =
    let seen = c.args.self.now.seen in
    let memory : c.self.inside.memory ≡ seen.shared.memory = ap (λ (v : RunState). v.seen.shared.memory) c.self.view_is in
    let mapped : is_ok (read seen.shared.memory c.args.number c.args.n) ≡ true =
    subst (λ (space : AddressSpace). is_ok (read space c.args.number c.args.n) ≡ true) memory (sym c.is_mapped.ensures ∙ c.if-is_mapped.true) in
    let outcome = move-unwritten seen c.args.site c.args.number c.args.new c.args.n go c.args.fault mapped c.requires.refused in
    subst (λ (o : MachineOutcome). IsOutcome o c.refused.result c.refused.new.self) (sym outcome)
    (from_plain (refused_at seen c.args.site Write c.args.n c.args.new c.args.fault) c.refused.result c.refused.new.self c.refused.ensures)

pub returns-then-is_mapped-clause-adds : goal.returns-then-is_mapped-clause-adds
returns-then-is_mapped-clause-adds c some =
    let seen = c.args.self.now.seen in
    let outcome = refused_at seen c.args.site Write c.args.n c.args.new c.args.fault in
    outcome-adds seen.shared outcome c.refused.result c.refused.new.self (from_plain outcome c.refused.result c.refused.new.self c.refused.ensures) some
    (refused-adds seen c.args.site Write c.args.n c.args.new c.args.fault)

pub returns-else-is_mapped-clause-step : goal.returns-else-is_mapped-clause-step
returns-else-is_mapped-clause-step c go =
    let seen = c.args.self.now.seen in
    let memory : c.self.inside.memory ≡ seen.shared.memory = ap (λ (v : RunState). v.seen.shared.memory) c.self.view_is in
    let unmapped : is_ok (read seen.shared.memory c.args.number c.args.n) ≡ false =
    subst (λ (space : AddressSpace). is_ok (read space c.args.number c.args.n) ≡ false) memory (sym c.is_mapped.ensures ∙ c.if-is_mapped.false) in
    let outcome = move-unread seen c.args.site c.args.number c.args.new c.args.n go c.args.fault unmapped c.requires.refused in
    subst (λ (o : MachineOutcome). IsOutcome o c.refused-else-is_mapped.result c.refused-else-is_mapped.new.self) (sym outcome)
    (from_plain (refused_at seen c.args.site Read c.args.n c.args.number c.args.fault) c.refused-else-is_mapped.result c.refused-else-is_mapped.new.self c.refused-else-is_mapped.ensures)

pub returns-else-is_mapped-clause-adds : goal.returns-else-is_mapped-clause-adds
returns-else-is_mapped-clause-adds c some =
    let seen = c.args.self.now.seen in
    let outcome = refused_at seen c.args.site Read c.args.n c.args.number c.args.fault in
    outcome-adds seen.shared outcome c.refused-else-is_mapped.result c.refused-else-is_mapped.new.self
    (from_plain outcome c.refused-else-is_mapped.result c.refused-else-is_mapped.new.self c.refused-else-is_mapped.ensures) some
    (refused-adds seen c.args.site Read c.args.n c.args.number c.args.fault)
