use Rattle.std.proofs.Common.{ap, arith}
use Rattle.ir_machine.specs.RunStates.{RunState}
use Rattle.ir_machine.proofs.Growth.{result-place}
use Rattle.ir_machine.proofs.run.Run.end_moved.Goals as goal

pub go_on-requires : goal.go_on-requires
go_on-requires c =
    let (block, found) = c.requires.names in
    let ended = ap (λ (v : RunState). v.seen.frame.place) (c.in-Ok.ensures.state block found) in
    let set = ap (λ (v : RunState). v.seen.frame.place) c.set_result.ensures in
    let kept = result-place c.end_block.new.self.seen c.args.to c.args.new in
    let place = c.requires.place in
    omega (arith, ended, set, kept, place)
