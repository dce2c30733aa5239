use Rattle.std.proofs.Common.{◌≡◌, refl, sym, ap, ◌∙◌, subst, arith}
use Rattle.hw_tags.specs.declared.words.Words.{Words}
use Rattle.ir_machine.specs.RunStates.{RunState, Grows, GrowsLittle}
use Rattle.ir_machine.specs.State.{MachineSeen, MachineShared}
use Rattle.ir_machine.specs.StepEnds.{chain_known}
use Rattle.ir_machine.proofs.Growth.{grows-little, grows-then, site-grows}
use Rattle.ir_machine.proofs.run.Run.enter.Goals as goal

pub returns-in-Ok-enter_if-clause-grows : goal.returns-in-Ok-enter_if-clause-grows
returns-in-Ok-enter_if-clause-grows c some =
    let seen = c.args.self.now.seen in
    let entered = c.enter_if.new.self.seen.shared in
    let pushed : c.push_chain.new.self.seen.shared ≡ (chain_known seen c.args.site).shared = ap (λ (v : RunState). v.seen.shared) c.in-Ok-push_chain.ensures.state in
    let grows : Grows 0 1 1 c.args.words.now c.enter_if.new.words (chain_known seen c.args.site).shared entered =
    subst (λ (shared : MachineShared). Grows 0 1 1 c.args.words.now c.enter_if.new.words shared entered) pushed c.in-Ok-enter_if.ensures.grows in
    subst (GrowsLittle c.args.words.now c.enter_if.new.words seen.shared) (sym (c.start_frame.ensures.shared some))
    (grows-little 1 1 1 c.args.words.now c.enter_if.new.words seen.shared entered (omega arith) (omega arith) (omega arith)
    (grows-then 1 0 0 0 1 1 c.args.words.now c.args.words.now c.enter_if.new.words seen.shared (chain_known seen c.args.site).shared entered (site-grows c.args.words.now seen c.args.site) grows))

pub returns-in-Err-enter_if-clause-grows : goal.returns-in-Err-enter_if-clause-grows
returns-in-Err-enter_if-clause-grows c some =
    let seen = c.args.self.now.seen in
    let after = c.not_entered.new.self.seen.shared in
    let same : after ≡ (chain_known seen c.args.site).shared =
    ap (λ (s : MachineSeen). s.shared) c.not_entered.ensures.seen
    ∙ (ap (λ (v : RunState). v.seen.shared) (c.in-Err-enter_if.ensures.stays c.in-Err-enter_if.error refl)
    ∙ ap (λ (v : RunState). v.seen.shared) c.in-Ok-push_chain.ensures.state) in
    subst (λ (w : Words). GrowsLittle c.args.words.now w seen.shared after) (sym (c.in-Err-enter_if.ensures.words_stay c.in-Err-enter_if.error refl))
    (subst (GrowsLittle c.args.words.now c.args.words.now seen.shared) (sym same)
    (grows-little 1 0 0 c.args.words.now c.args.words.now seen.shared (chain_known seen c.args.site).shared (omega arith) (omega arith) (omega arith) (site-grows c.args.words.now seen c.args.site)))
