use Rattle.std.proofs.Common.{◌≡◌, ap, sym, subst, Some, arith}
use Rattle.tag_alloc.specs.HeapBlocks.{HeapState, freed_block}
use Rattle.ir_machine.specs.RunStates.{RunState}
use Rattle.ir_machine.proofs.Growth.{death-grows, grows-little}
use Rattle.ir_machine.proofs.StepGrowth.{goes_on-keeps}
use Rattle.ir_machine.proofs.run.Run.free_block.Goals as goal

pub go_on-requires : goal.go_on-requires
go_on-requires c =
    let (block, found) = c.requires.names in
    let heap = ap (λ (v : RunState). v.seen.shared.heap) c.in-Ok.ensures.state in
    let there = subst (λ (h : HeapState). freed_block h c.args.number ≡ Some block) (sym heap) found in
    let ended = ap (λ (v : RunState). v.seen.frame.place) (c.in-Ok-end_block.ensures.state block there) in
    let pushed = ap (λ (v : RunState). v.seen.frame.place) c.in-Ok.ensures.state in
    let place = c.requires.place in
    omega (arith, ended, pushed, place)

pub returns-in-Ok-end_block-clause-grows : goal.returns-in-Ok-end_block-clause-grows
returns-in-Ok-end_block-clause-grows c some =
    let seen = c.args.self.now.seen in
    let pushed = ap (λ (v : RunState). v.seen.shared) c.in-Ok.ensures.state in
    let kept = goes_on-keeps c.end_block.new.self.seen c.go_on.result c.go_on.new.self c.go_on.ensures some in
    grows-little 1 0 1 c.args.words.now c.end_block.new.words seen.shared c.go_on.new.self.seen.shared (omega arith) (omega arith) (omega arith)
    (death-grows c.args.words.now c.end_block.new.words seen c.args.site c.push_chain.new.self.seen.shared c.end_block.new.self.seen.shared c.go_on.new.self.seen.shared
    pushed c.in-Ok-end_block.ensures.grows kept)
