use Rattle.std.proofs.Common.{◌≡◌, refl, ap, ◌∙◌, arith}
use Rattle.ir_machine.specs.RunStates.{RunState}
use Rattle.ir_machine.specs.State.{MachineSeen}
use Rattle.ir_machine.proofs.Growth.{birth-grows, grows-little, result-keeps, site-little}
use Rattle.ir_machine.proofs.StepGrowth.{goes_on-keeps}
use Rattle.ir_machine.proofs.run.Run.malloc.Goals as goal

pub returns-in-Ok-new_block-clause-grows : goal.returns-in-Ok-new_block-clause-grows
returns-in-Ok-new_block-clause-grows c some =
    let seen = c.args.self.now.seen in
    let pushed = ap (λ (v : RunState). v.seen.shared) c.in-Ok.ensures.state in
    let kept = goes_on-keeps c.set_result.new.self.seen c.go_on.result c.go_on.new.self c.go_on.ensures some
    ∙ (ap (λ (v : RunState). v.seen.shared) c.set_result.ensures ∙ result-keeps c.new_block.new.self.seen c.args.to c.in-Ok-new_block.number) in
    grows-little 1 1 1 c.args.words.now c.new_block.new.words seen.shared c.go_on.new.self.seen.shared (omega arith) (omega arith) (omega arith)
    (birth-grows c.args.words.now c.new_block.new.words seen c.args.site c.push_chain.new.self.seen.shared c.new_block.new.self.seen.shared c.go_on.new.self.seen.shared
    pushed c.in-Ok-new_block.ensures.grows kept)

pub returns-in-Err-new_block-clause-grows : goal.returns-in-Err-new_block-clause-grows
returns-in-Err-new_block-clause-grows c some =
    let full = c.in-Err-new_block.full in
    let same = ap (λ (s : MachineSeen). s.shared) c.end.ensures.seen
    ∙ (ap (λ (v : RunState). v.seen.shared) (c.in-Err-new_block.ensures.stays full refl) ∙ ap (λ (v : RunState). v.seen.shared) c.in-Ok.ensures.state) in
    site-little c.args.words.now c.new_block.new.words c.args.self.now.seen c.args.site c.end.new.self.seen.shared (c.in-Err-new_block.ensures.words_stay full refl) same
