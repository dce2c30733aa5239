use Rattle.std.proofs.Common.{◌≡◌, true, ℕ, List, sym, ap, ◌∙◌, subst, Result, Ok, Err}
use Rattle.hw_base.specs.declared.endings.Full.{Full}
use Rattle.hw_tags.specs.Words.{coming}
use Rattle.stack_tags.specs.FrameSteps.{StacksAfter, entered}
use Rattle.stack_tags.specs.declared.enter_error.EnterError.TheVariants as error
use Rattle.ir_machine.specs.CallSteps.{AfterEntry, begins_with_entry, code_at}
use Rattle.ir_machine.specs.Programs.{sizes_at}
use Rattle.ir_machine.specs.RunStates.{RunState}
use Rattle.ir_machine.proofs.EntrySteps.{full-entry, variables-entry}
use Rattle.ir_machine.proofs.run.Run.enter_if.Goals as goal

pub returns-in-Ok-clause-entry : goal.returns-in-Ok-clause-entry
returns-in-Ok-clause-entry c setting has next =
    let shared = c.args.self.now.seen.shared in
    let (after, ok, state) = c.in-Ok.ensures.ok in
    let begins : begins_with_entry (code_at c.args.program.now.code c.args.func).insts ≡ true =
    ap begins_with_entry (sym c.instructions_of.ensures) ∙ (sym c.begins_with_entry.ensures ∙ c.if-not-begins_with_entry.false) in
    let entry : entered shared.stacks shared.memory 0 c.args.func (coming c.args.words.now 0) (sizes_at c.args.program.now c.args.func) shared.births c.args.chain ≡ Ok after =
    subst (λ (sizes : List ℕ). entered shared.stacks shared.memory 0 c.args.func (coming c.args.words.now 0) sizes shared.births c.args.chain ≡ Ok after) c.sizes.ensures ok in
    variables-entry setting c.args.program.now c.args.words.now c.args.func c.args.chain shared has after begins next entry
    ∙ ap (λ (v : RunState). Ok (record { shared = v.seen.shared; place = 1 })) (sym state)

pub returns-in-Err-clause-full : goal.returns-in-Err-clause-full
returns-in-Err-clause-full c full is setting has next =
    let shared = c.args.self.now.seen.shared in
    let same : c.in-Err.error ≡ error.Full full = cc in
    let begins : begins_with_entry (code_at c.args.program.now.code c.args.func).insts ≡ true =
    ap begins_with_entry (sym c.instructions_of.ensures) ∙ (sym c.begins_with_entry.ensures ∙ c.if-not-begins_with_entry.false) in
    let entry : entered shared.stacks shared.memory 0 c.args.func (coming c.args.words.now 0) (sizes_at c.args.program.now c.args.func) shared.births c.args.chain ≡ Err full =
    subst (λ (sizes : List ℕ). entered shared.stacks shared.memory 0 c.args.func (coming c.args.words.now 0) sizes shared.births c.args.chain ≡ Err full) c.sizes.ensures
    (c.in-Err.ensures.full full (ap Err same) (coming c.args.words.now 0)) in
    full-entry setting c.args.program.now c.args.words.now c.args.func c.args.chain shared has full begins next entry
