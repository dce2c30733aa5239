use Rattle.std.proofs.Common.{◌≡◌, refl, ap, sym, ◌∙◌, subst, length, Some, None, Ok, arith}
use Rattle.std.specs.Prelude.{min}
use Rattle.hw_tags.specs.Words.{coming}
use Rattle.tag_alloc.specs.HeapBlocks.{HeapState, free_mismatch, freed_block}
use Rattle.tag_alloc.specs.HeapSteps.{allocated}
use Rattle.tag_alloc.proofs.StayingBlocks.{freed_block-allocated}
use Rattle.ir_machine.specs.BlockFunctions.{moved_block, with_birth}
use Rattle.ir_machine.specs.RunStates.{RunState, AreNext, IsOutcome}
use Rattle.ir_machine.specs.State.{MachineOutcome, MachineSeen, MachineShared}
use Rattle.ir_machine.specs.StepEnds.{chain_at, chain_known}
use Rattle.ir_machine.proofs.BlockSteps.{birth-goes, passes-allocated}
use Rattle.ir_machine.proofs.Growth.{birth-grows, grows-then, next-words, site-grows, site-little}
use Rattle.ir_machine.proofs.run.Run.renew_block.Goals as goal

pub move_block-requires-clause-chains : goal.move_block-requires-clause-chains
move_block-requires-clause-chains c =
    let seen = c.args.self.now.seen in
    let born = c.in-Ok-new_block.ensures.grows.chains in
    let pushed = ap (λ (v : RunState). length v.seen.shared.chains) c.in-Ok.ensures.state in
    let more = (site-grows c.args.words.now seen c.args.site).chains in
    let few = c.requires.chains in
    omega (arith, born, pushed, more, few)

pub move_block-requires-clause-passes : goal.move_block-requires-clause-passes
move_block-requires-clause-passes c =
    let pushed = c.push_chain.new.self.seen.shared in
    let (after, is, number, state) = c.in-Ok-new_block.ensures.ok in
    let (block, found) = c.requires.names in
    let heap = ap (λ (v : RunState). v.seen.shared.heap) c.in-Ok.ensures.state in
    let there = subst (λ (h : HeapState). freed_block h c.args.number ≡ Some block) (sym heap) found in
    let passes = subst (λ (h : HeapState). free_mismatch h c.args.number ≡ None) (sym heap) c.requires.passes in
    subst (λ (h : HeapState). free_mismatch h c.args.number ≡ None) (sym (ap (λ (v : RunState). v.seen.shared.heap) state))
    (passes-allocated pushed.heap pushed.memory (coming c.args.words.now 0) c.args.size pushed.births c.in-Ok.chain c.args.number after block is there passes)

pub move_block-requires-clause-names : goal.move_block-requires-clause-names
move_block-requires-clause-names c =
    let pushed = c.push_chain.new.self.seen.shared in
    let (after, is, number, state) = c.in-Ok-new_block.ensures.ok in
    let (block, found) = c.requires.names in
    let heap = ap (λ (v : RunState). v.seen.shared.heap) c.in-Ok.ensures.state in
    let there = subst (λ (h : HeapState). freed_block h c.args.number ≡ Some block) (sym heap) found in (
      block,
      subst (λ (h : HeapState). freed_block h c.args.number ≡ Some block) (sym (ap (λ (v : RunState). v.seen.shared.heap) state))
          (freed_block-allocated pushed.heap pushed.memory (coming c.args.words.now 0) c.args.size pushed.births c.in-Ok.chain c.args.number after block is there),
    )

pub returns-in-Ok-new_block-clause-step : goal.returns-in-Ok-new_block-clause-step
returns-in-Ok-new_block-clause-step c setting block next found size_is =
    let seen = c.args.self.now.seen in
    let site = c.args.site in
    let size = c.args.size in
    let known = chain_known seen site in
    let chain = chain_at seen site in
    let pushed = c.push_chain.new.self.seen in
    let born = c.new_block.new.self.seen in
    let go = moved_block setting site c.args.to c.args.number size chain block in
    let (after, is, number, state) = c.in-Ok-new_block.ensures.ok in
    let same : pushed ≡ known = ap (λ (v : RunState). v.seen) c.in-Ok.ensures.state in
    let there : freed_block pushed.shared.heap c.args.number ≡ Some block = subst (λ (s : MachineSeen). freed_block s.shared.heap c.args.number ≡ Some block) (sym same) found in
    let birth : allocated known.shared.heap known.shared.memory (coming c.args.words.now 0) size known.shared.births chain ≡ Ok after =
    subst (λ k. allocated known.shared.heap known.shared.memory (coming c.args.words.now 0) size known.shared.births k ≡ Ok after) c.in-Ok.ensures.chain
    (subst (λ (s : MachineSeen). allocated s.shared.heap s.shared.memory (coming c.args.words.now 0) size s.shared.births c.in-Ok.chain ≡ Ok after) same is) in
    let outcome = birth-goes setting c.args.words.now known size chain go after next birth in
    let born_is : born ≡ with_birth known after = ap (λ (v : RunState). v.seen) state ∙ ap (λ (s : MachineSeen). with_birth s after) same in
    let words : AreNext setting c.args.words.now pushed.shared.drawn = subst (λ (s : MachineSeen). AreNext setting c.args.words.now s.shared.drawn) (sym same) next in
    let later = next-words setting 1 c.args.words.now c.new_block.new.words pushed.shared.drawn born.shared.drawn words c.in-Ok-new_block.ensures.grows.drawn in
    let still : freed_block born.shared.heap c.args.number ≡ Some block =
    subst (λ (h : HeapState). freed_block h c.args.number ≡ Some block) (sym (ap (λ (v : RunState). v.seen.shared.heap) state))
    (freed_block-allocated pushed.shared.heap pushed.shared.memory (coming c.args.words.now 0) size pushed.shared.births c.in-Ok.chain c.args.number after block is there) in
    let bytes : min block.size size ≡ c.min.result = ap (λ k. min k size) size_is ∙ sym c.min.ensures in
    let moved : IsOutcome (moved_block setting site c.args.to c.args.number size c.in-Ok.chain block born c.in-Ok-new_block.fresh) c.move_block.result c.move_block.new.self =
    c.move_block.ensures.step setting block size later still bytes in
    subst (λ (o : MachineOutcome). IsOutcome o c.move_block.result c.move_block.new.self) (sym outcome)
    (subst (λ (s : MachineSeen). IsOutcome (go s after.number) c.move_block.result c.move_block.new.self) born_is
    (subst (λ n. IsOutcome (go born n) c.move_block.result c.move_block.new.self) (sym number)
    (subst (λ k. IsOutcome (moved_block setting site c.args.to c.args.number size k block born c.in-Ok-new_block.fresh) c.move_block.result c.move_block.new.self) c.in-Ok.ensures.chain moved)))

pub returns-in-Ok-new_block-clause-grows : goal.returns-in-Ok-new_block-clause-grows
returns-in-Ok-new_block-clause-grows c some =
    let seen = c.args.self.now.seen in
    let born = c.new_block.new.self.seen.shared in
    let pushed = ap (λ (v : RunState). v.seen.shared) c.in-Ok.ensures.state in
    grows-then 1 1 1 1 0 1 c.args.words.now c.new_block.new.words c.move_block.new.words seen.shared born c.move_block.new.self.seen.shared
    (birth-grows c.args.words.now c.new_block.new.words seen c.args.site c.push_chain.new.self.seen.shared born born pushed c.in-Ok-new_block.ensures.grows refl)
    (c.move_block.ensures.grows some)

pub returns-in-Err-new_block-clause-grows : goal.returns-in-Err-new_block-clause-grows
returns-in-Err-new_block-clause-grows c some =
    let full = c.in-Err-new_block.full in
    let same = ap (λ (s : MachineSeen). s.shared) c.end.ensures.seen
    ∙ (ap (λ (v : RunState). v.seen.shared) (c.in-Err-new_block.ensures.stays full refl) ∙ ap (λ (v : RunState). v.seen.shared) c.in-Ok.ensures.state) in
    site-little c.args.words.now c.new_block.new.words c.args.self.now.seen c.args.site c.end.new.self.seen.shared (c.in-Err-new_block.ensures.words_stay full refl) same
